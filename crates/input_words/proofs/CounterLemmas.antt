-- Lemmas on the counters of a frame, and on those that are watched.
use Rattle.std.proofs.Common.{◌≡◌, ℕ, ◌+◌, ◌<◌, ◌≤◌, Bool, true, false, List, [], ◌∷◌, length, get_or, drop, map, Some, None, refl, ap, sym, ◌∙◌}
use Rattle.std.specs.Prelude.{◌||◌, if◌then◌else◌}
use Rattle.std.specs.List.{flat_map, list_any}
use Rattle.std.proofs.lemmas.List.{drop_more, drop_all}
use Rattle.packet_forms.specs.declared.name.Counter.{Counter}
use Rattle.input_words.specs.declared.inputs.FrameTime.{FrameTime}
use Rattle.input_words.specs.declared.counters.WatchedCounter.{WatchedCounter}
use Rattle.input_words.specs.Counters.{are_same, counter_named, conduct_told, kept_behind, with_counter, with_counters, counters_told, watched_behind}

-- ---- the counter of a name

module _ (cs : List Counter) (name : List ℕ) where
  pub named_on : (i : ℕ) (c : Counter) → i < length cs → c ≡ get_or cs i c → are_same c.name name ≡ false → counter_named (drop i cs) name ≡ counter_named (drop (i + 1) cs) name
  unfolding counter_named
  named_on i c within is other =
      ap (λ (xs : List Counter). counter_named xs name) (drop_more cs i c within)
      ∙ ap (λ (x : Counter). if are_same x.name name then Some x.value else counter_named (drop (i + 1) cs) name) (sym is)
      ∙ ap (λ (b : Bool). if b then Some c.value else counter_named (drop (i + 1) cs) name) other

  pub named_here : (i : ℕ) (c : Counter) → i < length cs → c ≡ get_or cs i c → are_same c.name name ≡ true → counter_named (drop i cs) name ≡ Some c.value
  unfolding counter_named
  named_here i c within is same =
      ap (λ (xs : List Counter). counter_named xs name) (drop_more cs i c within)
      ∙ ap (λ (x : Counter). if are_same x.name name then Some x.value else counter_named (drop (i + 1) cs) name) (sym is)
      ∙ ap (λ (b : Bool). if b then Some c.value else counter_named (drop (i + 1) cs) name) same

  pub named_end : (i : ℕ) → length cs ≤ i → counter_named (drop i cs) name ≡ None
  unfolding counter_named
  named_end i past = ap (λ (xs : List Counter). counter_named xs name) (drop_all i cs past)

-- ---- counters whose names are new

pub added_on : (ws : List WatchedCounter) (cs : List Counter) (i : ℕ) (c : Counter) → i < length cs → c ≡ get_or cs i c → with_counters ws (drop i cs) ≡ with_counters (with_counter ws c) (drop (i + 1) cs)
unfolding with_counters
added_on ws cs i c within is =
    ap (with_counters ws) (drop_more cs i c within) ∙ ap (λ (x : Counter). with_counters (with_counter ws x) (drop (i + 1) cs)) (sym is)

pub added_end : (ws : List WatchedCounter) (cs : List Counter) (i : ℕ) → length cs ≤ i → with_counters ws (drop i cs) ≡ ws
unfolding with_counters
added_end ws cs i past = ap (with_counters ws) (drop_all i cs past)

-- ---- a frame without counters, where none advanced

first_off : (a b : Bool) → (a || b) ≡ false → a ≡ false
first_off false b off = refl
first_off true b off = cc

rest_off : (a b : Bool) → (a || b) ≡ false → b ≡ false
rest_off false b off = off
rest_off true b off = cc

still_told : (t : FrameTime) (w : WatchedCounter) → w.advances ≡ false → conduct_told t w None ≡ []
still_told t w still = rw still refl

still_kept : (w : WatchedCounter) → w.advances ≡ false → kept_behind w None ≡ w
still_kept w still = ap (λ (b : Bool). record w { advances = b }) (sym still)

all_told : (t : FrameTime) (ws : List WatchedCounter) → list_any (λ (w : WatchedCounter). w.advances) ws ≡ false → flat_map (λ (w : WatchedCounter). conduct_told t w None) ws ≡ []
all_told t [] off = refl
all_told t (w ∷ ws) off = rw (still_told t w (first_off w.advances _ off)) (all_told t ws (rest_off w.advances _ off))

all_kept : (ws : List WatchedCounter) → list_any (λ (w : WatchedCounter). w.advances) ws ≡ false → map (λ (w : WatchedCounter). kept_behind w None) ws ≡ ws
all_kept [] off = refl
all_kept (w ∷ ws) off =
    ap (λ (x : WatchedCounter). x ∷ map (λ (v : WatchedCounter). kept_behind v None) ws) (still_kept w (first_off w.advances _ off))
    ∙ ap (λ (xs : List WatchedCounter). w ∷ xs) (all_kept ws (rest_off w.advances _ off))

-- nothing is told, and the counters stay
pub nothing_told : (t : FrameTime) (ws : List WatchedCounter) (cs : List Counter) → cs ≡ [] → list_any (λ (w : WatchedCounter). w.advances) ws ≡ false → counters_told t ws cs ≡ []
unfolding counters_told counter_named
nothing_told t ws cs none off = rw none (all_told t ws off)

pub none_changed : (ws : List WatchedCounter) (cs : List Counter) → cs ≡ [] → list_any (λ (w : WatchedCounter). w.advances) ws ≡ false → watched_behind ws cs ≡ ws
unfolding watched_behind with_counters counter_named
none_changed ws cs none off = rw none (all_kept ws off)
