use Rattle.std.proofs.Common.{◌++◌, ◌∷◌, [], List, length, sym, ◌∙◌}
use Rattle.lc_watch.specs.Histories.{Input, Setup, setup_of, telemetry_of}
use Rattle.lc_watch.specs.Firing.{fired_of, fired_count}
use Rattle.lc_watch.specs.State.{HasTaken, AwaitsEvaluation}
use Rattle.lc_watch.specs.declared.duty.Duty.{Duty}
use Rattle.lc_watch.proofs.Taking.{all_outcomes}
use Rattle.lc_watch.proofs.Following.{fired_more}
use Rattle.lc_watch.proofs.Calming.{calm_stand, calm_fired, calm_items}
use Rattle.lc_watch.proofs.duty.Duty.fire.Goals as goal

awaits_evaluation : (setup : Setup) (history : List Input) (input : Input) (duty : Duty) → HasTaken setup history input duty → AwaitsEvaluation setup history input duty.outcomes duty.points
awaits_evaluation setup history input duty taken = record {
  outcomes = all_outcomes setup.watch (telemetry_of (history ++ input ∷ [])) duty.outcomes taken.whole taken.outcomes;
  points = taken.points;
}

pub returns-then-self-clause-stands : goal.returns-then-self-clause-stands
returns-then-self-clause-stands c = λ watch history input taken.
    let setup : Setup = setup_of watch c.args.actions.now in
    let duty : Duty = c.args.self.now in
    let calm = taken.calm c.if-self.true in
    let awaits = awaits_evaluation setup history input duty taken in
    record {
      outcomes = taken.outcomes;
      points = calm_stand setup history input duty.outcomes duty.points awaits calm;
      fired = calm_fired setup history input duty.outcomes duty.points awaits calm duty.fired taken.fired;
      calm = taken.calm;
    }

pub returns-then-self-clause-items : goal.returns-then-self-clause-items
returns-then-self-clause-items c = λ watch history input taken.
    let setup : Setup = setup_of watch c.args.actions.now in
    let duty : Duty = c.args.self.now in
    calm_items setup history input duty.outcomes duty.points (awaits_evaluation setup history input duty taken) (taken.calm c.if-self.true) c.args.now c.args.out.now

pub returns-clause-stands : goal.returns-clause-stands
unfolding fired_count
returns-clause-stands c = λ watch history input taken.
    let setup : Setup = setup_of watch c.args.actions.now in
    let awaits = awaits_evaluation (setup_of watch c.args.actions.now) history input c.args.self.now taken in
    record {
      outcomes = taken.outcomes;
      points = c.serve_all-self.ensures.points watch history input awaits;
      fired = c.serve_all-self.ensures.fired watch history input (length (fired_of setup history)) awaits taken.fired ∙ sym (fired_more setup history input);
      calm = c.serve_all-self.ensures.calm;
    }

pub returns-clause-items : goal.returns-clause-items
returns-clause-items c = λ watch history input taken.
    let awaits = awaits_evaluation (setup_of watch c.args.actions.now) history input c.args.self.now taken in
    c.serve_all-self.ensures.items watch history input awaits
