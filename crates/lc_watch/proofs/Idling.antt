-- A wakeup in which there is nothing to do.
use Rattle.std.proofs.Common.{◌≡◌, ℕ, zero, suc, ◌+◌, ◌<◌, ◌%◌, Bool, true, false, not, ◌&&◌, List, [], ◌∷◌, ◌++◌, length, get_or, Option, None, option_to_list, refl, sym, ap, subst, ◌∙◌, arith, append-nil}
use Rattle.std.specs.Prelude.{◌==◌, filter}
use Rattle.std.specs.List.{list_any, flat_map, range_with_len}
use Rattle.std.proofs.lemmas.Bool.{or_parts}
use Rattle.commands.specs.Verdicts.{orders_in, verdicts_on}
use Rattle.commands.specs.Answering.{command_items}
use Rattle.commands.specs.Counting.{counts_of}
use Rattle.commands.specs.declared.verdicts.Verdict.{Verdict}
use Rattle.commands.proofs.Heard.{no_packets, no_answers, verdicts_none, orders_none, heard_idle}
use Rattle.bus_pipes.specs.declared.names.Out.{Out}
use Rattle.lc_watch.specs.Messages.{lc_name}
use Rattle.lc_watch.specs.Outcomes.{outcome_at, OutcomesStand}
use Rattle.lc_watch.specs.Actionpoints.{is_used, act_at, blank_row, uses_any}
use Rattle.lc_watch.specs.Verdicts.{lc_protocol}
use Rattle.lc_watch.specs.Failing.{by_firing, fires_by, PointStands}
use Rattle.lc_watch.specs.Histories.{Input, Setup, heard_at, ordered_at, switches_in, telemetry_of, evaluation_at, evaluations_of}
use Rattle.lc_watch.specs.Firing.{starts_active, settings_of, is_active, fires, fired_at, fired_of, fired_count}
use Rattle.lc_watch.specs.Answers.{point_items}
use Rattle.lc_watch.specs.Step.{lc_heard, turn_of, lc_answers, lc_items}
use Rattle.lc_watch.specs.State.{point_at, StandsFor, is_idle_on}
use Rattle.lc_watch.specs.declared.actionpoints.ActRow.{ActRow}
use Rattle.lc_watch.specs.declared.instructions.Instruction.{Instruction}
use Rattle.lc_watch.specs.declared.state.Lc.{Lc}
use Rattle.lc_watch.proofs.Both.{and_no, both_true}
use Rattle.lc_watch.proofs.Evaluating.{entry_unused}
use Rattle.lc_watch.proofs.Rows.{unseen_stands}
use Rattle.lc_watch.proofs.Following.{telemetry_more, fired_more}
use Rattle.lc_watch.proofs.Serving.{served_is}

-- where none passes a test, none does in any place
none_at : (rows : List ActRow) (k : ℕ) → list_any is_used rows ≡ false → is_used (get_or rows k blank_row) ≡ false
none_at [] k none = refl
none_at (row ∷ rows) zero none = (or_parts (is_used row) (list_any is_used rows) none).0
none_at (row ∷ rows) (suc k) none = none_at rows k (or_parts (is_used row) (list_any is_used rows) none).1

unused_at : (rows : List ActRow) (k : ℕ) → uses_any rows ≡ false → is_used (act_at rows k) ≡ false
unfolding uses_any
unused_at rows k none = none_at rows k none

filter_none : (p : ℕ → Bool) (xs : List ℕ) → ((k : ℕ) → p k ≡ false) → filter p xs ≡ []
filter_none p [] none = refl
filter_none p (x ∷ xs) none = rw (none x) (filter_none p xs none)

module _ (setup : Setup) (history : List Input) (input : Input) (unused : uses_any setup.actions ≡ false) where
  -- no actionpoint is evaluated, and none fires
  unevaluated : (k : ℕ) → evaluation_at setup k (history ++ input ∷ []) ≡ None
  unevaluated k = sym (entry_unused (outcome_at setup.watch (telemetry_of (history ++ input ∷ []))) (act_at setup.actions k) (unused_at setup.actions k unused))

  none_fires : (k : ℕ) → fires setup history input k ≡ false
  none_fires k =
      let row = act_at setup.actions k in
      ap (fires_by (starts_active row) row.failures (evaluations_of setup k history) (settings_of setup k history ++ switches_in k (ordered_at setup input))) (unevaluated k)
      ∙ and_no (is_active setup history (ordered_at setup input) k)

  none_fired : fired_at setup history input ≡ []
  unfolding fired_at
  none_fired = filter_none (fires setup history input) (range_with_len 0 16) none_fires

  module _ (silent : input.commands ≡ []) where
    none_heard : heard_at setup input ≡ []
    none_heard = ap (verdicts_on lc_protocol setup.actions) silent ∙ verdicts_none lc_protocol setup.actions

    none_ordered : ordered_at setup input ≡ []
    none_ordered = ap orders_in none_heard ∙ orders_none Instruction

    -- nothing is sent
    pub idle_items : lc_items setup history input ≡ []
    unfolding lc_items
    idle_items =
        ap (λ (heard : List (Verdict Instruction)). command_items lc_answers lc_name (turn_of setup history input) heard ++ flat_map (point_items input.time setup.actions) (fired_at setup history input)) none_heard
        ∙ ap (λ (items : List Out). items ++ flat_map (point_items input.time setup.actions) (fired_at setup history input)) (no_answers lc_answers lc_name (turn_of setup history input))
        ∙ ap (flat_map (point_items input.time setup.actions)) none_fired

    -- and what is kept stands
    idle_points : (k : ℕ) (lc : Lc) → StandsFor setup history lc → k < 16
        → PointStands (starts_active (act_at setup.actions k)) (act_at setup.actions k).failures (evaluations_of setup k (history ++ input ∷ [])) (settings_of setup k (history ++ input ∷ []) ++ switches_in k []) (point_at lc.duty.points k)
    idle_points k lc stood within =
        let row = act_at setup.actions k in
        let start = starts_active row in
        let evaluations = evaluations_of setup k history in
        let settings = settings_of setup k history in
        served_is setup history input k (point_at lc.duty.points k)
        (subst (λ (o : Option Bool). PointStands start row.failures (evaluations ++ option_to_list o) ((settings ++ switches_in k (ordered_at setup input)) ++ by_firing (fires_by start row.failures evaluations (settings ++ switches_in k (ordered_at setup input)) o)) (point_at lc.duty.points k))
        (sym (unevaluated k))
        (subst (λ (orders : List Instruction). PointStands start row.failures (evaluations ++ []) ((settings ++ switches_in k orders) ++ by_firing (fires_by start row.failures evaluations (settings ++ switches_in k orders) None)) (point_at lc.duty.points k))
        (sym none_ordered)
        (unseen_stands start row.failures evaluations (settings ++ []) (point_at lc.duty.points k) (stood.duty.points.each k within))))

    pub idle_stands : (lc : Lc) → input.seen ≡ [] → StandsFor setup history lc → StandsFor setup (history ++ input ∷ []) lc
    unfolding lc_heard fired_count
    idle_stands lc unseen stood = record {
      counts = stood.counts ∙ ap counts_of (sym (heard_idle lc_protocol (λ (earlier : List Input) (i : Input). setup.actions) (λ i. i.commands) history input silent));
      duty = record {
        outcomes =
            subst (λ (telemetry : List (List ℕ)). OutcomesStand setup.watch telemetry lc.duty.outcomes)
            (sym (telemetry_more history input ∙ ap (λ (more : List (List ℕ)). telemetry_of history ++ more) unseen ∙ append-nil (telemetry_of history))) stood.duty.outcomes;
        points = record { long = stood.duty.points.long; each = λ k within. idle_points k lc stood within };
        fired =
            stood.duty.fired
            ∙ sym (fired_more setup history input ∙ ap (λ (places : List ℕ). (length (fired_of setup history) + length places) % 65536) none_fired ∙ (let same : (length (fired_of setup history) + 0) % 65536 ≡ length (fired_of setup history) % 65536 = omega arith in same));
        calm = stood.duty.calm;
      };
      uses = stood.uses;
    }

-- whether there is nothing to do
pub idle_by : (actions : List ActRow) (commands telemetry : List (List ℕ)) (uses : Bool) → ((length commands == 0) && (length telemetry == 0)) ≡ true → uses ≡ uses_any actions → not uses ≡ is_idle_on actions commands telemetry
unfolding is_idle_on
idle_by actions commands telemetry uses quiet same = rw (quiet, sym same) refl

pub not_idle : (actions : List ActRow) (commands telemetry : List (List ℕ)) → ((length commands == 0) && (length telemetry == 0)) ≡ false → false ≡ is_idle_on actions commands telemetry
unfolding is_idle_on
not_idle actions commands telemetry taken = rw taken refl

-- then no packet was taken
pub none_taken : (commands telemetry : List (List ℕ)) → ((length commands == 0) && (length telemetry == 0)) ≡ true → (commands ≡ []) × (telemetry ≡ [])
none_taken commands telemetry quiet =
    let both = both_true (length commands == 0) (length telemetry == 0) quiet in
    (no_packets commands both.0, no_packets telemetry both.1)
