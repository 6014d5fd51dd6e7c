use Rattle.std.proofs.Common.{◌++◌, ◌∷◌, [], refl, sym, ap, ◌∙◌}
use Rattle.histories.specs.Entries.Entry.{Woken}
use Rattle.bus_pipes.specs.Held.{adding}
use Rattle.commands.specs.Counting.{counts_of}
use Rattle.commands.specs.Answering.{command_items}
use Rattle.md_dwell.specs.Messages.{md_name}
use Rattle.md_dwell.specs.Orders.{Input, input_of, heard_at, ordered_at}
use Rattle.md_dwell.specs.Step.{turn_of, md_answers, table_items, md_items}
use Rattle.md_dwell.specs.State.{DutyStands, Stands}
use Rattle.md_dwell.proofs.Following.{heard_woken}
use Rattle.md_dwell.proofs.Turns.{items_whole, table_wakeup, table_gives}
use Rattle.md_dwell.proofs.state.Md.advance.Goals as goal

pub returns-clause-stands : goal.returns-clause-stands
unfolding Stands
returns-clause-stands c = λ tables history stood.
    let input : Input = input_of c.args.now c.args.commands.now c.args.window in
    let at : DutyStands tables history (ordered_at input) c.handle_all.new.state = c.handle_all.ensures.stands (turn_of tables history input) (refl, refl) stood.duty in
    record {
      counts = c.handle_all.ensures.counts (turn_of tables history input) (refl, refl) stood.duty stood.counts ∙ ap counts_of (sym (heard_woken history input));
      duty = record {
        first = table_wakeup tables history input 1 c.serve.new.self (c.serve.ensures.stands _ _ _ _ at.first);
        second = table_wakeup tables history input 2 c.serve-2.new.self (c.serve-2.ensures.stands _ _ _ _ at.second);
        third = table_wakeup tables history input 3 c.serve-3.new.self (c.serve-3.ensures.stands _ _ _ _ at.third);
        fourth = table_wakeup tables history input 4 c.serve-4.new.self (c.serve-4.ensures.stands _ _ _ _ at.fourth);
      };
    }

pub returns-clause-items : goal.returns-clause-items
unfolding Stands md_items
returns-clause-items c = λ tables history stood.
    let input : Input = input_of c.args.now c.args.commands.now c.args.window in
    let at : DutyStands tables history (ordered_at input) c.handle_all.new.state = c.handle_all.ensures.stands (turn_of tables history input) (refl, refl) stood.duty in
    items_whole c.args.out.now c.handle_all.new.out c.serve.new.out c.serve-2.new.out c.serve-3.new.out c.serve-4.new.out
    (command_items md_answers md_name (turn_of tables history input) (heard_at input))
    (table_items tables (history ++ Woken input ∷ []) c.args.now 1) (table_items tables (history ++ Woken input ∷ []) c.args.now 2)
    (table_items tables (history ++ Woken input ∷ []) c.args.now 3) (table_items tables (history ++ Woken input ∷ []) c.args.now 4)
    c.requires.empty (c.handle_all.ensures.items (turn_of tables history input) (refl, refl) stood.duty stood.counts)
    (c.serve.ensures.items _ _ _ _ at.first ∙ ap (adding c.handle_all.new.out) (table_gives tables history input c.args.now 1))
    (c.serve-2.ensures.items _ _ _ _ at.second ∙ ap (adding c.serve.new.out) (table_gives tables history input c.args.now 2))
    (c.serve-3.ensures.items _ _ _ _ at.third ∙ ap (adding c.serve-2.new.out) (table_gives tables history input c.args.now 3))
    (c.serve-4.ensures.items _ _ _ _ at.fourth ∙ ap (adding c.serve-3.new.out) (table_gives tables history input c.args.now 4))

pub returns-clause-counted : goal.returns-clause-counted
returns-clause-counted c = c.serve-4.ensures.counted (c.serve-3.ensures.counted (c.serve-2.ensures.counted (c.serve.ensures.counted c.handle_all.ensures.counted)))
