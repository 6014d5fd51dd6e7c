use Rattle.std.proofs.Common.{◌≡◌, ◌<◌, ◌+◌, ◌%◌, ◌++◌, ◌∷◌, [], ℕ, Bool, false, cond, List, Option, option_to_list, length, refl, sym, ap, subst, ◌∙◌, arith}
use Rattle.std.specs.List.{flat_map}
use Rattle.std.proofs.lemmas.List.{length-set}
use Rattle.bus_pipes.specs.Held.{adding}
use Rattle.bus_pipes.proofs.Deliveries.{adding_none}
use Rattle.lc_watch.specs.Outcomes.{outcome_at, kept_at}
use Rattle.lc_watch.specs.Actionpoints.{act_at, evaluation_of}
use Rattle.lc_watch.specs.Failing.{fires_by, by_firing, IsCalm, PointStands}
use Rattle.lc_watch.specs.Histories.{Input, Setup, setup_of, ordered_at, switches_in, telemetry_of, evaluation_at, evaluations_of}
use Rattle.lc_watch.specs.Firing.{starts_active, settings_of}
use Rattle.lc_watch.specs.Answers.{firing_items, point_items}
use Rattle.lc_watch.specs.State.{AwaitsEvaluation, point_at}
use Rattle.lc_watch.specs.declared.watchpoints.WatchRow.{WatchRow}
use Rattle.lc_watch.specs.declared.actionpoints.ActRow.{ActRow}
use Rattle.lc_watch.proofs.Halves.{half_none, half_more, half_whole}
use Rattle.lc_watch.proofs.Evaluating.{evaluation_same}
use Rattle.lc_watch.proofs.Both.{both_true}
use Rattle.lc_watch.proofs.Calming.{IsCalmAt}
use Rattle.lc_watch.proofs.Serving.{IsAny, IsPoint, served_is, fired_below, below_none, below_all, given_more, fired_one}
use Rattle.lc_watch.proofs.duty.serve_all.Goals as goal
use Rattle.lc_watch.proofs.duty.serve_all.Goals.{After-struct_known-1}

pub loop-place-init : goal.loop-place-init
loop-place-init c = record {
  long = c.told-points;
  few = omega arith;
  room = refl;
  calm = λ all. half_none IsAny (IsCalmAt c.args.outcomes.now c.args.actions.now) 16 (record { active = false; failing = 0 }) c.args.points.now (λ k within. tt);
  counted = λ before. before;
  points = λ watch history input awaits.
      let setup : Setup = setup_of watch c.args.actions.now in
      half_none (IsPoint setup history (ordered_at setup input)) (IsPoint setup (history ++ input ∷ []) []) 16 (record { active = false; failing = 0 }) c.args.points.now awaits.points.each;
  items = λ watch history input awaits.
      let setup : Setup = setup_of watch c.args.actions.now in
      sym (ap (λ (places : List ℕ). adding c.args.out.now (flat_map (point_items c.args.now c.args.actions.now) places)) (below_none setup history input) ∙ adding_none c.args.out.now);
  fired = λ watch history input count awaits counted.
      let setup : Setup = setup_of watch c.args.actions.now in
      let none : length (fired_below setup history input 0) ≡ 0 = ap length (below_none setup history input) in
      omega (arith, none, counted);
}

-- the place that is served, before it is
stood_here : (c : After-struct_known-1) (watch : List WatchRow) (history : List Input) (input : Input) → AwaitsEvaluation (setup_of watch c.args.actions.now) history input c.args.outcomes.now c.args.points.now
    → IsPoint (setup_of watch c.args.actions.now) history (ordered_at (setup_of watch c.args.actions.now) input) c.loop-place.place (point_at c.loop-place.points c.loop-place.place)
stood_here c watch history input awaits = (c.loop-place.invariant.points watch history input awaits).left c.loop-place.place (omega arith) c.loop-place-test.true

-- and what its evaluation comes to
evaluated_here : (c : After-struct_known-1) (watch : List WatchRow) (history : List Input) (input : Input) → AwaitsEvaluation (setup_of watch c.args.actions.now) history input c.args.outcomes.now c.args.points.now
    → evaluation_of (kept_at c.args.outcomes.now) (act_at c.args.actions.now c.loop-place.place) ≡ evaluation_at (setup_of watch c.args.actions.now) c.loop-place.place (history ++ input ∷ [])
evaluated_here c watch history input awaits =
    evaluation_same (kept_at c.args.outcomes.now) (outcome_at watch (telemetry_of (history ++ input ∷ []))) awaits.outcomes (act_at c.args.actions.now c.loop-place.place)

pub loop-place-preserved : goal.loop-place-preserved
loop-place-preserved c =
    let held = c.loop-place.invariant in
    let place = c.loop-place.place in
    let within : place < length c.loop-place.points = omega (arith, held.long) in
    let outcomes = c.args.outcomes.now in
    let old = point_at c.loop-place.points place in
    let row_is = c.row.ensures.row in
    record {
      long = length-set c.loop-place.points place c.serve-served.result.point ∙ held.long;
      few = let one = c.serve-served.ensures.few in let before = held.few in omega (arith, one, before);
      room = c.serve-served.ensures.room ∙ held.room;
      calm = λ all.
          let both = both_true c.loop-place.calm c.serve-served.result.calm all in
          half_more IsAny (IsCalmAt outcomes c.args.actions.now) 16 (record { active = false; failing = 0 }) c.loop-place.points place c.serve-served.result.point within
          (subst (λ (r : ActRow). IsCalm (evaluation_of (kept_at outcomes) r) r.failures c.serve-served.result.point) row_is (c.serve-served.ensures.calm both.1)) (held.calm both.0);
      counted = λ before. c.serve-served.ensures.counted (held.counted before);
      points = λ watch history input awaits.
          let setup : Setup = setup_of watch c.args.actions.now in
          let row = act_at setup.actions place in
          let evaluations = evaluations_of setup place history in
          let settings = settings_of setup place history ++ switches_in place (ordered_at setup input) in
          let served = subst (λ (r : ActRow). PointStands (starts_active row) r.failures evaluations settings old
          → PointStands (starts_active row) r.failures (evaluations ++ option_to_list (evaluation_of (kept_at outcomes) r)) (settings ++ by_firing (fires_by (starts_active row) r.failures evaluations settings (evaluation_of (kept_at outcomes) r))) c.serve-served.result.point)
          row_is (c.serve-served.ensures.stands (starts_active row) evaluations settings) in
          half_more (IsPoint setup history (ordered_at setup input)) (IsPoint setup (history ++ input ∷ []) []) 16 (record { active = false; failing = 0 }) c.loop-place.points place c.serve-served.result.point within
          (served_is setup history input place c.serve-served.result.point
          (subst (λ (o : Option Bool). PointStands (starts_active row) row.failures (evaluations ++ option_to_list o) (settings ++ by_firing (fires_by (starts_active row) row.failures evaluations settings o)) c.serve-served.result.point)
          (evaluated_here c watch history input awaits) (served (stood_here c watch history input awaits))))
          (held.points watch history input awaits);
      items = λ watch history input awaits.
          let setup : Setup = setup_of watch c.args.actions.now in
          let row = act_at setup.actions place in
          let evaluations = evaluations_of setup place history in
          let settings = settings_of setup place history ++ switches_in place (ordered_at setup input) in
          let given = subst (λ (r : ActRow). PointStands (starts_active row) r.failures evaluations settings old
          → c.serve-served.new.out ≡ adding c.loop-place.out (cond (fires_by (starts_active row) r.failures evaluations settings (evaluation_of (kept_at outcomes) r)) (firing_items c.args.now r) []))
          row_is (c.serve-served.ensures.items (starts_active row) evaluations settings) in
          given_more setup history input c.args.now place c.args.out.now c.loop-place.out c.serve-served.new.out (held.items watch history input awaits)
          (subst (λ (o : Option Bool). c.serve-served.new.out ≡ adding c.loop-place.out (cond (fires_by (starts_active row) row.failures evaluations settings o) (firing_items c.args.now row) []))
          (evaluated_here c watch history input awaits) (given (stood_here c watch history input awaits)));
      fired = λ watch history input count awaits counted.
          let setup : Setup = setup_of watch c.args.actions.now in
          let row = act_at setup.actions place in
          let evaluations = evaluations_of setup place history in
          let settings = settings_of setup place history ++ switches_in place (ordered_at setup input) in
          let before : ℕ = count + length (fired_below setup history input place) in
          let noted = subst (λ (r : ActRow). PointStands (starts_active row) r.failures evaluations settings old → c.loop-place.fired ≡ before % 65536
          → c.serve-served.new.fired ≡ (before + cond (fires_by (starts_active row) r.failures evaluations settings (evaluation_of (kept_at outcomes) r)) 1 0) % 65536)
          row_is (λ here so_far. c.serve-served.ensures.fired (starts_active row) evaluations settings before here so_far) in
          fired_one setup history input count place c.serve-served.new.fired
          (subst (λ (o : Option Bool). c.serve-served.new.fired ≡ (before + cond (fires_by (starts_active row) row.failures evaluations settings o) 1 0) % 65536)
          (evaluated_here c watch history input awaits) (noted (stood_here c watch history input awaits) (held.fired watch history input count awaits counted)));
    }

pub returns-clause-points : goal.returns-clause-points
returns-clause-points c = λ watch history input awaits.
    let setup : Setup = setup_of watch c.args.actions.now in
    record {
      long = c.loop-place.invariant.long;
      each = half_whole (IsPoint setup history (ordered_at setup input)) (IsPoint setup (history ++ input ∷ []) []) 16 (record { active = false; failing = 0 }) c.loop-place.points c.loop-place.place c.loop-place-test.false (c.loop-place.invariant.points watch history input awaits);
    }

pub returns-clause-calm : goal.returns-clause-calm
returns-clause-calm c = λ all k within.
    half_whole IsAny (IsCalmAt c.args.outcomes.now c.args.actions.now) 16 (record { active = false; failing = 0 }) c.loop-place.points c.loop-place.place c.loop-place-test.false (c.loop-place.invariant.calm all) k within

pub returns-clause-items : goal.returns-clause-items
returns-clause-items c = λ watch history input awaits.
    let setup : Setup = setup_of watch c.args.actions.now in
    let all : c.loop-place.place ≡ 16 = omega arith in
    c.loop-place.invariant.items watch history input awaits
    ∙ ap (λ (places : List ℕ). adding c.args.out.now (flat_map (point_items c.args.now c.args.actions.now) places)) (ap (fired_below setup history input) all ∙ below_all setup history input)

pub returns-clause-fired : goal.returns-clause-fired
returns-clause-fired c = λ watch history input count awaits counted.
    let setup : Setup = setup_of watch c.args.actions.now in
    let all : c.loop-place.place ≡ 16 = omega arith in
    c.loop-place.invariant.fired watch history input count awaits counted
    ∙ ap (λ (places : List ℕ). (count + length places) % 65536) (ap (fired_below setup history input) all ∙ below_all setup history input)
