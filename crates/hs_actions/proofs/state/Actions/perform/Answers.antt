use Rattle.std.proofs.Common.{sym, ap, ◌∙◌}
use Rattle.bus_pipes.specs.Held.{adding}
use Rattle.hs_actions.proofs.Series.{performed_is}
use Rattle.hs_actions.proofs.Counted.{performed_counted}
use Rattle.hs_actions.proofs.state.Actions.perform.Goals as goal

pub returns-clause-stands : goal.returns-clause-stands
returns-clause-stands c = λ past a source name action now stood. c.attempt-went.ensures.stands past a (action ∙ sym c.action_of-action.ensures.action) now stood

pub returns-clause-items : goal.returns-clause-items
returns-clause-items c = λ past a source name action now stood.
    let action_is = action ∙ sym c.action_of-action.ensures.action in
    c.put_items.ensures.items
    ∙ ap (adding c.args.out.now) (performed_is c.args.now c.args.acts.now past a c.args.from c.args.name c.action_of-action.result c.attempt-went.result source name action_is (c.attempt-went.ensures.went past a action_is now stood))

pub returns-clause-counted : goal.returns-clause-counted
returns-clause-counted c =
    performed_counted c.args.now c.args.acts.now c.args.from c.args.name c.action_of-action.result c.attempt-went.result c.args.out.now c.put_items.new.out c.put_items.ensures.items
