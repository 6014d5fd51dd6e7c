-- What is kept of all entries, at a check in which no countdown ends, and at one more entry.
use Rattle.std.proofs.Common.{◌≡◌, ◌≢◌, ℕ, suc, ◌+◌, ◌-◌, ◌<◌, ◌≤◌, true, false, List, [], ◌∷◌, ◌++◌, length, set, inl, inr, Option, None, Some, refl, sym, subst, ◌∙◌, arith, ne_eqb}
use Rattle.std.specs.Prelude.{◌==◌, unwrap_or}
use Rattle.std.specs.List.{flat_map}
use Rattle.std.proofs.lemmas.Bool.{cases_eq, cases_lt}
use Rattle.std.proofs.lemmas.List.{get_or-set_same, get_or-set_other}
use Rattle.packet_forms.specs.declared.name.Counter.{Counter}
use Rattle.hs_tables.specs.Apps.{entry_of}
use Rattle.hs_tables.specs.declared.apps.AppRow.{AppRow}
use Rattle.hs_tables.specs.declared.apps.AppEntry.{AppEntry}
use Rattle.hs_actions.specs.Happenings.{Happening}
use Rattle.hs_monitors.specs.Acting.{counter_in, changes, acts_now}
use Rattle.hs_monitors.specs.Monitors.{row_at, app_attempt}
use Rattle.hs_monitors.specs.Entries.{EntryStands, EntriesStand, HeadsStand, KeptStands, watched_at, later, kept_with}
use Rattle.hs_monitors.specs.declared.watches.Watched.{Watched}
use Rattle.hs_monitors.specs.declared.heads.Heads.{Heads}
use Rattle.hs_monitors.specs.declared.kept.Kept.{Kept}
use Rattle.hs_monitors.proofs.Checks.{rested_stands, rested_acts, changed_stands, changed_acts, unchanged_stands, unchanged_acts, counter_none}
use Rattle.hs_monitors.proofs.Performing.{row_quiet, entry_cycles}

-- rows none of which attempts anything
nothing_from : (f : AppRow → List Happening) (rows : List AppRow) → ((i : ℕ) → i < length rows → f (row_at rows i) ≡ []) → flat_map f rows ≡ []
nothing_from f [] each = refl
nothing_from f (row ∷ rows) each = rw (each 0 (omega arith)) (nothing_from f rows (λ i within. each (suc i) (omega arith)))

-- an entry whose countdown doesn't end
module _ (e : AppEntry) (checks : List (List Counter)) (counters : List Counter) (w : Watched) (passed : ℕ) (some : 0 < e.cycles) (stood : EntryStands e checks (later passed w)) where
  -- it acted
  pub over_stands : w.countdown ≡ 0 → EntryStands e (checks ++ counters ∷ []) (later (passed + 1) w)
  over_stands ended =
      let same : w.countdown - passed ≡ w.countdown - (passed + 1) = omega arith in
      subst (λ (n : ℕ). EntryStands e (checks ++ counters ∷ []) (record { last = w.last; countdown = n })) same (rested_stands e checks counters (later passed w) stood some (omega arith))

  -- it counts down, by the last counter that the check leaves
  module _ (far : passed + 1 < w.countdown) (last : ℕ) (found : Option ℕ) (found_is : found ≡ counter_in counters e.name) (last_is : last ≡ unwrap_or found w.last) where
    pub same_stands : last ≡ w.last → EntryStands e (checks ++ counters ∷ []) (later (passed + 1) w)
    same_stands same =
        subst (λ (n : ℕ). EntryStands e (checks ++ counters ∷ []) (record { last = n; countdown = w.countdown - (passed + 1) })) same
        (unchanged_stands e checks counters (later passed w) stood some (omega arith) last found found_is last_is same (w.countdown - (passed + 1)) (omega arith))

    pub other_stands : last ≢ w.last → (countdown : ℕ) → countdown ≡ e.cycles + passed + 1 → EntryStands e (checks ++ counters ∷ []) (record { last = last; countdown = countdown - (passed + 1) })
    other_stands other countdown anew =
        let whole : e.cycles ≡ countdown - (passed + 1) = omega arith in
        subst (λ (n : ℕ). EntryStands e (checks ++ counters ∷ []) (record { last = last; countdown = n })) whole
        (changed_stands e checks counters (later passed w) stood some (omega arith) last found found_is last_is other)

  -- the check has no counter of its name
  pub none_stands : (0 < w.countdown → passed + 1 < w.countdown) → None ≡ counter_in counters e.name → EntryStands e (checks ++ counters ∷ []) (later (passed + 1) w)
  none_stands far none = elim (cases_lt 0 w.countdown) [
    | inl runs ↦ same_stands (far runs) w.last None none refl refl
    | inr ended ↦ over_stands (omega arith)
  ]

  pub rests : (0 < w.countdown → passed + 1 < w.countdown) → false ≡ acts_now e.cycles (changes e.name (checks ++ counters ∷ []))
  rests far = elim (cases_lt 0 w.countdown) [
    | inl runs ↦ by_counter (far runs) (unwrap_or (counter_in counters e.name) w.last) refl
    | inr ended ↦ rested_acts e checks counters (later passed w) stood some (omega arith)
  ]
    where
      by_counter : passed + 1 < w.countdown → (last : ℕ) → last ≡ unwrap_or (counter_in counters e.name) w.last → false ≡ acts_now e.cycles (changes e.name (checks ++ counters ∷ []))
      by_counter more last is = elim (cases_eq last w.last) [
        | inl same ↦
            let left : w.countdown - passed - 1 ≢ 0 = omega arith in
            sym (ne_eqb (w.countdown - passed - 1) 0 left)
            ∙ unchanged_acts e checks counters (later passed w) stood some (omega arith) last (counter_in counters e.name) refl is same (w.countdown - passed - 1) refl
        | inr other ↦ changed_acts e checks counters (later passed w) stood some (omega arith) last (counter_in counters e.name) refl is other
      ]

-- each countdown is over or ends later
pub ends_later : (rows : List AppRow) (checks : List (List Counter)) (kept : Kept) → KeptStands rows checks kept → kept.passed + 1 < kept.least → (k : ℕ) → k < 32
    → 0 < (watched_at kept.watched k).countdown → kept.passed + 1 < (watched_at kept.watched k).countdown
ends_later rows checks kept stood soon k within runs = let most : kept.least ≤ (watched_at kept.watched k).countdown = stood.least k within runs in omega arith

-- all entries, at a check without counters
module _ (rows : List AppRow) (checks : List (List Counter)) (counters : List Counter) (none : (length counters == 0) ≡ true) (old : Kept) (stood : KeptStands rows checks old) (soon : old.passed + 1 < old.least) where
  one_passes : (k : ℕ) (e : AppEntry) → k < 32 → entry_of (row_at rows k) ≡ Some e → EntryStands e (checks ++ counters ∷ []) (later (old.passed + 1) (watched_at old.watched k))
  one_passes k e within is =
      none_stands e checks counters (watched_at old.watched k) old.passed (entry_cycles (row_at rows k) e is) (stood.each k e within is) (ends_later rows checks old stood soon k within) (counter_none counters e.name none)

  pub kept_passes : KeptStands rows (checks ++ counters ∷ []) (kept_with old.heads old.watched (old.passed + 1) old.least)
  kept_passes = record { whole = stood.whole; heads = stood.heads; each = one_passes; least = stood.least; within = soon }

-- none attempts anything
pub none_acts : (rows : List AppRow) (checks : List (List Counter)) (counters : List Counter) (kept : Kept) → KeptStands rows checks kept → kept.passed + 1 < kept.least → (k : ℕ)
    → flat_map (app_attempt k (checks ++ counters ∷ [])) rows ≡ []
none_acts rows checks counters kept stood soon k =
    nothing_from (app_attempt k (checks ++ counters ∷ [])) rows
    (λ i inside. let within : i < 32 = omega (arith, inside, stood.whole) in
    row_quiet (row_at rows i) (checks ++ counters ∷ []) k
    (λ e is. rests e checks counters (watched_at kept.watched i) kept.passed (entry_cycles (row_at rows i) e is) (stood.each i e within is) (ends_later rows checks kept stood soon i within)))

-- a property of each place below one, and of that one
pub set_more : (P : ℕ → Watched → Type 0) (kept : List Watched) (i : ℕ) (w : Watched) → i < length kept → ((k : ℕ) → k < i → P k (watched_at kept k)) → P i w → (k : ℕ) → k < i + 1 → P k (watched_at (set kept i w) k)
set_more P kept i w inside before here k below = elim (cases_eq i k) [
  | inl same ↦
      subst (λ (j : ℕ). P j (watched_at (set kept i w) j)) same
      (subst (P i) (sym (get_or-set_same kept i w (record { last = 0; countdown = 0 }) inside)) here)
  | inr other ↦
      let apart : i ≢ k = other in
      subst (P k) (sym (get_or-set_other kept i k w (record { last = 0; countdown = 0 }) (λ back. other (sym back)))) (before k (omega arith))
]

-- a property of the places from one on
pub set_more_from : (from : ℕ) (P : ℕ → Watched → Type 0) (kept : List Watched) (i : ℕ) (w : Watched) → i < length kept → ((k : ℕ) → from ≤ k → k < i → P k (watched_at kept k)) → P i w → (k : ℕ) → from ≤ k → k < i + 1 → P k (watched_at (set kept i w) k)
set_more_from from P kept i w inside before here k past below = set_more (λ (j : ℕ) (x : Watched). from ≤ j → P j x) kept i w inside (λ j below_it past_it. before j past_it below_it) (λ past_it. here) k below past

-- the least countdown of those below one, and of that one
pub least_more : (kept : List Watched) (i old new : ℕ) → ((k : ℕ) → k < i → 0 < (watched_at kept k).countdown → old ≤ (watched_at kept k).countdown) → new ≤ old
    → (0 < (watched_at kept i).countdown → new ≤ (watched_at kept i).countdown) → (k : ℕ) → k < i + 1 → 0 < (watched_at kept k).countdown → new ≤ (watched_at kept k).countdown
least_more kept i old new before fewer here k below runs = elim (cases_eq i k) [
  | inl same ↦ subst (λ (j : ℕ). 0 < (watched_at kept j).countdown → new ≤ (watched_at kept j).countdown) same here runs
  | inr other ↦
      let apart : i ≢ k = other in
      let most : old ≤ (watched_at kept k).countdown = before k (omega arith) runs in
      omega arith
]

-- where no check passed
pub just_kept : (rows : List AppRow) (checks : List (List Counter)) (heads : Heads) (watched : List Watched) (least : ℕ) → length rows ≡ 32 → HeadsStand rows heads → EntriesStand rows (λ (k : ℕ). checks) watched → 0 < least
    → ((k : ℕ) → k < 32 → 0 < (watched_at watched k).countdown → least ≤ (watched_at watched k).countdown) → KeptStands rows checks (kept_with heads watched 0 least)
just_kept rows checks heads watched least whole headed stood some fewest = record {
  whole = whole;
  heads = headed;
  each = λ k e within is.
      let same : (watched_at watched k).countdown ≡ (watched_at watched k).countdown - 0 = omega arith in
      subst (λ (n : ℕ). EntryStands e checks (record { last = (watched_at watched k).last; countdown = n })) same (stood.each k e within is);
  least = fewest;
  within = some;
}
