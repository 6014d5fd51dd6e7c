-- Outcomes at more packets.
use Rattle.std.proofs.Common.{◌≡◌, ℕ, ◌+◌, ◌<◌, Bool, true, false, cond, List, [], ◌∷◌, ◌++◌, length, take, drop, get_or, replicate, Some, refl, sym, ap, ◌∙◌, eq-eqb, append-nil, append_assoc, inl, inr, arith}
use Rattle.std.specs.Prelude.{filter_map}
use Rattle.std.proofs.lemmas.Bool.{cases_lt}
use Rattle.std.proofs.lemmas.List.{get_or-replicate, get_or_past, drop_more, take-append-drop}
use Rattle.std.proofs.lemmas.List.Elements.{filter_map-append}
use Rattle.histories.specs.Words.{last_or}
use Rattle.histories.proofs.Lasts.{last_or_more}
use Rattle.packet_forms.specs.Packets.{message_id}
use Rattle.lc_watch.specs.Watchpoints.{is_used, watch_at, blank_row}
use Rattle.lc_watch.specs.Outcomes.{reading, reading_in, outcome_of, outcome_at, kept_at, OutcomesStand}
use Rattle.lc_watch.specs.declared.watchpoints.WatchRow.{WatchRow}
use Rattle.lc_watch.specs.declared.outcomes.Outcome.{Outcome}
use Rattle.lc_watch.specs.declared.outcomes.Outcome.TheVariants.{Unseen}
use Rattle.lc_watch.proofs.Halves.{Half}

module _ (row : WatchRow) where
  -- packets of other ids
  pub outcome_quiet : (seen rest : List (List ℕ)) → filter_map (reading_in row) rest ≡ [] → outcome_of row seen ≡ outcome_of row (seen ++ rest)
  unfolding outcome_of
  outcome_quiet seen rest none =
      sym (ap (λ (found : List Outcome). cond (is_used row) (last_or Unseen found) Unseen)
      (filter_map-append (reading_in row) seen rest ∙ ap (λ (more : List Outcome). filter_map (reading_in row) seen ++ more) none ∙ append-nil (filter_map (reading_in row) seen)))

  -- a watchpoint that isn't used
  pub outcome_unused : (seen more : List (List ℕ)) → is_used row ≡ false → outcome_of row seen ≡ outcome_of row (seen ++ more)
  unfolding outcome_of
  outcome_unused seen more unused = rw unused refl

  -- a packet of its id
  outcome_seen : (seen : List (List ℕ)) (p : List ℕ) → message_id p ≡ row.id → is_used row ≡ true → reading row p ≡ outcome_of row (seen ++ p ∷ [])
  unfolding outcome_of
  outcome_seen seen p same used =
      let some : reading_in row p ≡ Some (reading row p) = rw (eq-eqb (message_id p) row.id same) refl in
      sym (rw used (ap (last_or Unseen) (filter_map-append (reading_in row) seen (p ∷ []) ∙ rw some refl) ∙ last_or_more Unseen (filter_map (reading_in row) seen) (reading row p)))

  -- the last one of its id
  pub outcome_last : (seen packets : List (List ℕ)) (i : ℕ) (p : List ℕ) → i < length packets → p ≡ get_or packets i p → message_id p ≡ row.id → is_used row ≡ true → filter_map (reading_in row) (drop (i + 1) packets) ≡ []
      → reading row p ≡ outcome_of row (seen ++ packets)
  outcome_last seen packets i p within is same used none =
      let rest = drop (i + 1) packets in
      outcome_seen (seen ++ take i packets) p same used
      ∙ outcome_quiet ((seen ++ take i packets) ++ p ∷ []) rest none
      ∙ ap (outcome_of row) (append_assoc (seen ++ take i packets) (p ∷ []) rest
      ∙ append_assoc seen (take i packets) (p ∷ rest)
      ∙ ap (λ (more : List (List ℕ)). seen ++ (take i packets ++ more)) (ap (λ (q : List ℕ). q ∷ rest) is ∙ sym (drop_more packets i p within))
      ∙ ap (λ (all : List (List ℕ)). seen ++ all) (take-append-drop i packets))

-- what holds of the places before and behind these packets
abbrev pub IsOutcome : List WatchRow → List (List ℕ) → ℕ → Outcome → Type 0
IsOutcome rows telemetry k outcome = outcome ≡ outcome_at rows telemetry k

abbrev pub HalfTaken : List WatchRow → List (List ℕ) → List (List ℕ) → ℕ → List Outcome → Type 0
HalfTaken rows before more i outcomes = Half (IsOutcome rows before) (IsOutcome rows (before ++ more)) 32 i Unseen outcomes

-- before the first packet
none_seen : (row : WatchRow) → Unseen ≡ outcome_of row []
unfolding outcome_of last_or
none_seen row = by_test (is_used row)
  where
    by_test : (t : Bool) → Unseen ≡ cond t Unseen Unseen
    by_test true = refl
    by_test false = refl

pub none_stand : (rows : List WatchRow) → OutcomesStand rows [] (replicate 32 Unseen)
none_stand rows = record { long = refl; each = λ k within. get_or-replicate 32 k Unseen Unseen within ∙ none_seen (watch_at rows k) }

-- outcomes that stand do so in every place: behind the last there is nothing
behind_none : (telemetry : List (List ℕ)) → outcome_of blank_row telemetry ≡ Unseen
unfolding outcome_of
behind_none telemetry = refl

pub all_outcomes : (rows : List WatchRow) (telemetry : List (List ℕ)) (outcomes : List Outcome) → length rows ≡ 32 → OutcomesStand rows telemetry outcomes → (k : ℕ) → kept_at outcomes k ≡ outcome_at rows telemetry k
all_outcomes rows telemetry outcomes whole stood k = elim (cases_lt k 32) [
  | inl within ↦ stood.each k within
  | inr past ↦
      let long = stood.long in
      get_or_past outcomes k Unseen (omega arith) ∙ sym (ap (λ (row : WatchRow). outcome_of row telemetry) (get_or_past rows k blank_row (omega arith)) ∙ behind_none telemetry)
]
