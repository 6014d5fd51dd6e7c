use Rattle.std.proofs.Common.{◌++◌, List, refl, sym, ap, ◌∙◌}
use Rattle.std.specs.List.{flat_map}
use Rattle.bus_pipes.specs.Held.{Held, adding}
use Rattle.bus_pipes.specs.declared.names.Out.{Out}
use Rattle.bus_pipes.proofs.Deliveries.{adding_more, items-adding}
use Rattle.commands.specs.Counting.{counts_of}
use Rattle.commands.specs.Answering.{command_items}
use Rattle.lc_watch.specs.Messages.{lc_name}
use Rattle.lc_watch.specs.Histories.{Input, Setup, input_of, setup_of, heard_at, telemetry_of}
use Rattle.lc_watch.specs.Firing.{fired_at}
use Rattle.lc_watch.specs.Answers.{point_items}
use Rattle.lc_watch.specs.Step.{turn_of, lc_answers, lc_items}
use Rattle.lc_watch.specs.State.{HasTaken, Stands}
use Rattle.lc_watch.proofs.Following.{heard_woken}
use Rattle.lc_watch.proofs.Stepping.{has_taken}
use Rattle.lc_watch.proofs.state.Lc.advance.Goals as goal
use Rattle.lc_watch.proofs.state.Lc.advance.Goals.{After-fire}

-- what stands as the actionpoints are evaluated
taken : (c : After-fire) (history : List Input) → Stands c.args.watch.now c.args.actions.now history c.args.self.now
    → HasTaken (setup_of c.args.watch.now c.args.actions.now) history (input_of c.args.now c.args.commands.now c.args.telemetry.now) c.take.new.self
unfolding Stands
taken c history stood =
    let setup : Setup = setup_of c.args.watch.now c.args.actions.now in
    let input : Input = input_of c.args.now c.args.commands.now c.args.telemetry.now in
    let at = c.handle_all.ensures.stands (turn_of setup history input) (refl, refl) stood.duty in
    has_taken setup history input c.handle_all.new.state c.take.new.self c.take.ensures.whole at (c.take.ensures.outcomes (telemetry_of history) at.outcomes) c.take.ensures.points c.take.ensures.fired c.take.ensures.calm

pub returns-clause-stands : goal.returns-clause-stands
unfolding Stands
returns-clause-stands c = λ history stood.
    let setup : Setup = setup_of c.args.watch.now c.args.actions.now in
    let input : Input = input_of c.args.now c.args.commands.now c.args.telemetry.now in
    record {
      counts = c.handle_all.ensures.counts (turn_of setup history input) (refl, refl) stood.duty stood.counts ∙ ap counts_of (sym (heard_woken setup history input));
      duty = c.fire.ensures.stands c.args.watch.now history input (taken c history stood);
      uses = stood.uses;
    }

pub returns-clause-items : goal.returns-clause-items
unfolding Stands lc_items
returns-clause-items c = λ history stood.
    let setup : Setup = setup_of c.args.watch.now c.args.actions.now in
    let input : Input = input_of c.args.now c.args.commands.now c.args.telemetry.now in
    let answers = command_items lc_answers lc_name (turn_of setup history input) (heard_at setup input) in
    let firings = flat_map (point_items c.args.now c.args.actions.now) (fired_at setup history input) in
    ap (λ (held : Held Out). held.items) (
    c.fire.ensures.items c.args.watch.now history input (taken c history stood)
    ∙ ap (λ (held : Held Out). adding held firings) (c.handle_all.ensures.items (turn_of setup history input) (refl, refl) stood.duty stood.counts)
    ∙ adding_more c.args.out.now answers firings)
    ∙ items-adding c.args.out.now (answers ++ firings)
    ∙ ap (λ (items : List Out). items ++ (answers ++ firings)) c.requires.empty

pub returns-clause-counted : goal.returns-clause-counted
returns-clause-counted c = c.fire.ensures.counted c.handle_all.ensures.counted
