-- What is kept of the actionpoints, place by place.
use Rattle.std.proofs.Common.{◌≡◌, ◌≢◌, ℕ, ◌+◌, ◌<◌, Bool, true, false, cond, List, [], ◌∷◌, ◌++◌, length, set, ◌%◌, Option, Some, None, option_to_list, inl, inr, refl, sym, ap, subst, ◌∙◌, arith, append-nil, append_assoc, length-append, ne_eqb, eq-eqb}
use Rattle.std.specs.Prelude.{filter}
use Rattle.std.specs.List.{flat_map, range_with_len}
use Rattle.std.proofs.lemmas.Bool.{cases_eq}
use Rattle.std.proofs.lemmas.List.{map-id, length-set, get_or-set_same, get_or-set_other}
use Rattle.std.proofs.lemmas.List.FromFn.{filter_of_map_range_with_len_more}
use Rattle.histories.proofs.Lasts.{last_or_more}
use Rattle.histories.proofs.Fronts.{flat_map_both}
use Rattle.bus_pipes.specs.Held.{Held, adding}
use Rattle.bus_pipes.specs.declared.names.Out.{Out}
use Rattle.bus_pipes.proofs.Deliveries.{adding_more}
use Rattle.histories.specs.Words.{last_or}
use Rattle.lc_watch.specs.Actionpoints.{act_at}
use Rattle.lc_watch.specs.Failing.{by_firing, PointStands}
use Rattle.lc_watch.specs.Histories.{Input, Setup, ordered_at, switch_of, switches_in, evaluation_at, evaluations_of}
use Rattle.lc_watch.specs.Firing.{starts_active, settings_of, is_active, fires, fired_at}
use Rattle.lc_watch.specs.Answers.{firing_items, point_items}
use Rattle.lc_watch.specs.State.{PointsStand, point_at}
use Rattle.lc_watch.specs.declared.actionpoints.ActRow.{ActRow}
use Rattle.lc_watch.specs.declared.points.Point.{Point}
use Rattle.lc_watch.specs.declared.instructions.Instruction.{Instruction}
use Rattle.lc_watch.specs.declared.instructions.Instruction.TheVariants.{Plain, Switch}
use Rattle.lc_watch.proofs.Following.{switches_more, evaluations_none, evaluations_more, settings_none, settings_more}

-- before the first wakeup
abbrev pub IsAny : ℕ → Point → Type 0
IsAny k p = Unit {0}

abbrev pub IsBegun : List ActRow → ℕ → Point → Type 0
IsBegun rows k p = PointStands (starts_active (act_at rows k)) (act_at rows k).failures [] [] p

-- behind a history and what was ordered in the next wakeup so far
abbrev pub IsPoint : Setup → List Input → List Instruction → ℕ → Point → Type 0
IsPoint setup history orders k p =
    PointStands (starts_active (act_at setup.actions k)) (act_at setup.actions k).failures (evaluations_of setup k history) (settings_of setup k history ++ switches_in k orders) p

pub begun_is : (setup : Setup) (k : ℕ) (p : Point) → IsBegun setup.actions k p → IsPoint setup [] [] k p
begun_is setup k p begun =
    subst (λ (evaluations : List Bool). PointStands (starts_active (act_at setup.actions k)) (act_at setup.actions k).failures evaluations (settings_of setup k [] ++ []) p) (sym (evaluations_none setup k))
    (subst (λ (settings : List Bool). PointStands (starts_active (act_at setup.actions k)) (act_at setup.actions k).failures [] (settings ++ []) p) (sym (settings_none setup k)) begun)

-- behind one more wakeup, by what serving it leaves
pub served_is : (setup : Setup) (history : List Input) (input : Input) (k : ℕ) (p : Point)
    → PointStands (starts_active (act_at setup.actions k)) (act_at setup.actions k).failures (evaluations_of setup k history ++ option_to_list (evaluation_at setup k (history ++ input ∷ [])))
    ((settings_of setup k history ++ switches_in k (ordered_at setup input)) ++ by_firing (fires setup history input k)) p
    → IsPoint setup (history ++ input ∷ []) [] k p
served_is setup history input k p served =
    let row = act_at setup.actions k in
    subst (λ (evaluations : List Bool). PointStands (starts_active row) row.failures evaluations (settings_of setup k (history ++ input ∷ []) ++ []) p) (sym (evaluations_more setup k history input))
    (subst (λ (settings : List Bool). PointStands (starts_active row) row.failures (evaluations_of setup k history ++ option_to_list (evaluation_at setup k (history ++ input ∷ []))) settings p)
    (sym (append-nil (settings_of setup k (history ++ input ∷ [])) ∙ settings_more setup k history input)) served)

-- behind one more order
settings_ordered : (setup : Setup) (history : List Input) (orders : List Instruction) (o : Instruction) (k : ℕ)
    → settings_of setup k history ++ switches_in k (orders ++ o ∷ []) ≡ (settings_of setup k history ++ switches_in k orders) ++ option_to_list (switch_of k o)
settings_ordered setup history orders o k =
    ap (λ (switches : List Bool). settings_of setup k history ++ switches) (switches_more k orders o) ∙ sym (append_assoc (settings_of setup k history) (switches_in k orders) (option_to_list (switch_of k o)))

module _ (setup : Setup) (history : List Input) (orders : List Instruction) (o : Instruction) (k : ℕ) (p : Point) where
  ordered_is : (found : Option Bool) → switch_of k o ≡ found
      → PointStands (starts_active (act_at setup.actions k)) (act_at setup.actions k).failures (evaluations_of setup k history) ((settings_of setup k history ++ switches_in k orders) ++ option_to_list found) p
      → IsPoint setup history (orders ++ o ∷ []) k p
  ordered_is found is stands =
      let row = act_at setup.actions k in
      subst (λ (settings : List Bool). PointStands (starts_active row) row.failures (evaluations_of setup k history) settings p)
      (ap (λ (f : Option Bool). (settings_of setup k history ++ switches_in k orders) ++ option_to_list f) (sym is) ∙ sym (settings_ordered setup history orders o k)) stands

  pub other_ordered : switch_of k o ≡ None → IsPoint setup history orders k p → IsPoint setup history (orders ++ o ∷ []) k p
  other_ordered none stood =
      let row = act_at setup.actions k in
      ordered_is None none
      (subst (λ (settings : List Bool). PointStands (starts_active row) row.failures (evaluations_of setup k history) settings p) (sym (append-nil (settings_of setup k history ++ switches_in k orders))) stood)

-- all actionpoints, where an order sets none, or the one in a place
pub plain_ordered : (setup : Setup) (history : List Input) (orders : List Instruction) (points : List Point) → PointsStand setup history orders points → PointsStand setup history (orders ++ Plain ∷ []) points
plain_ordered setup history orders points stood = record {
  long = stood.long;
  each = λ k within. other_ordered setup history orders Plain k (point_at points k) refl (stood.each k within);
}

pub one_ordered : (setup : Setup) (history : List Input) (orders : List Instruction) (points : List Point) (number place : ℕ) (on : Bool) (q : Point) → number ≡ place + 1 → place < 16
    → ((start : Bool) (n : ℕ) (evaluations settings : List Bool) → PointStands start n evaluations settings (point_at points place) → PointStands start n evaluations (settings ++ on ∷ []) q)
    → PointsStand setup history orders points → PointsStand setup history (orders ++ Switch number on ∷ []) (set points place q)
one_ordered setup history orders points number place on q is below becomes stood = record {
  long = length-set points place q ∙ stood.long;
  each = λ k within. elim (cases_eq place k) [
    | inl same ↦ subst (λ (j : ℕ). IsPoint setup history (orders ++ Switch number on ∷ []) j (point_at (set points place q) j)) same this
    | inr other ↦
        let apart : number ≢ k + 1 = let different : place ≢ k = other in omega arith in
        subst (IsPoint setup history (orders ++ Switch number on ∷ []) k) (sym (get_or-set_other points place k q (record { active = false; failing = 0 }) (λ back. other (sym back))))
        (other_ordered setup history orders (Switch number on) k (point_at points k) (rw (ne_eqb number (k + 1) apart) refl) (stood.each k within))
  ];
}
  where
    this : IsPoint setup history (orders ++ Switch number on ∷ []) place (point_at (set points place q) place)
    this =
        let inside : place < length points = let long = stood.long in omega arith in
        let row = act_at setup.actions place in
        subst (IsPoint setup history (orders ++ Switch number on ∷ []) place) (sym (get_or-set_same points place q (record { active = false; failing = 0 }) inside))
        (ordered_is setup history orders (Switch number on) place q (Some on) (rw (eq-eqb number (place + 1) is) refl)
        (becomes (starts_active row) row.failures (evaluations_of setup place history) (settings_of setup place history ++ switches_in place orders) (stood.each place below)))

-- the places so far that fire in a wakeup
unfoldable pub fired_below : Setup → List Input → Input → ℕ → List ℕ
fired_below setup history input count = filter (fires setup history input) (range_with_len 0 count)

pub below_none : (setup : Setup) (history : List Input) (input : Input) → fired_below setup history input 0 ≡ []
unfolding fired_below
below_none setup history input = refl

pub below_more : (setup : Setup) (history : List Input) (input : Input) (place : ℕ) → fired_below setup history input (place + 1) ≡ fired_below setup history input place ++ cond (fires setup history input place) (place ∷ []) []
unfolding fired_below
below_more setup history input place =
    let p = fires setup history input in
    ap (filter p) (sym (map-id (range_with_len 0 (place + 1)))) ∙ filter_of_map_range_with_len_more p (λ k. k) 0 place place (omega arith)
    ∙ ap (λ (places : List ℕ). filter p places ++ cond (p place) (place ∷ []) []) (map-id (range_with_len 0 place))

pub below_all : (setup : Setup) (history : List Input) (input : Input) → fired_below setup history input 16 ≡ fired_at setup history input
unfolding fired_below fired_at
below_all setup history input = refl

-- what they gave, and how many they are, at one more
given_if : {A : Type 0} (f : ℕ → List A) (b : Bool) (place : ℕ) → flat_map f (cond b (place ∷ []) []) ≡ cond b (f place) []
given_if f true place = append-nil (f place)
given_if f false place = refl

count_if : (b : Bool) (place : ℕ) → length {A = ℕ} (cond b (place ∷ []) []) ≡ cond b 1 0
count_if true place = refl
count_if false place = refl

pub given_more : (setup : Setup) (history : List Input) (input : Input) (time place : ℕ) (before middle after : Held Out)
    → middle ≡ adding before (flat_map (point_items time setup.actions) (fired_below setup history input place))
    → after ≡ adding middle (cond (fires setup history input place) (firing_items time (act_at setup.actions place)) [])
    → after ≡ adding before (flat_map (point_items time setup.actions) (fired_below setup history input (place + 1)))
given_more setup history input time place before middle after first next =
    let f = point_items time setup.actions in
    let here = cond (fires setup history input place) (place ∷ []) [] in
    next ∙ ap (λ (held : Held Out). adding held (cond (fires setup history input place) (f place) [])) first
    ∙ adding_more before (flat_map f (fired_below setup history input place)) (cond (fires setup history input place) (f place) [])
    ∙ ap (λ (more : List Out). adding before (flat_map f (fired_below setup history input place) ++ more)) (sym (given_if f (fires setup history input place) place))
    ∙ ap (adding before) (sym (flat_map_both f (fired_below setup history input place) here))
    ∙ ap (λ (places : List ℕ). adding before (flat_map f places)) (sym (below_more setup history input place))

pub fired_one : (setup : Setup) (history : List Input) (input : Input) (count place fired : ℕ) → fired ≡ (count + length (fired_below setup history input place) + cond (fires setup history input place) 1 0) % 65536
    → fired ≡ (count + length (fired_below setup history input (place + 1))) % 65536
fired_one setup history input count place fired is =
    let more : length (fired_below setup history input (place + 1)) ≡ length (fired_below setup history input place) + cond (fires setup history input place) 1 0 =
    ap length (below_more setup history input place) ∙ length-append (fired_below setup history input place) (cond (fires setup history input place) (place ∷ []) [])
    ∙ ap (λ (n : ℕ). length (fired_below setup history input place) + n) (count_if (fires setup history input place) place) in
    is ∙ ap (λ (n : ℕ). n % 65536) (let sum : count + length (fired_below setup history input place) + cond (fires setup history input place) 1 0 ≡ count + length (fired_below setup history input (place + 1)) = omega (arith, more) in sum)

-- whether an actionpoint is active behind a wakeup
pub active_behind : (setup : Setup) (history : List Input) (input : Input) (place : ℕ)
    → is_active setup (history ++ input ∷ []) [] place ≡ cond (fires setup history input place) false (is_active setup history (ordered_at setup input) place)
active_behind setup history input place =
    let start = starts_active (act_at setup.actions place) in
    let before = settings_of setup place history ++ switches_in place (ordered_at setup input) in
    ap (last_or start) (append-nil (settings_of setup place (history ++ input ∷ [])) ∙ settings_more setup place history input) ∙ by_case start before (fires setup history input place)
  where
    by_case : (start : Bool) (before : List Bool) (b : Bool) → last_or start (before ++ by_firing b) ≡ cond b false (last_or start before)
    by_case start before true = last_or_more start before false
    by_case start before false = ap (last_or start) (append-nil before)
