use Rattle.std.proofs.Common.{◌≡◌, ◌++◌, refl, subst}
use Rattle.memory_window.specs.Window.{seen}
use Rattle.bus_pipes.specs.Held.{adding}
use Rattle.commands.specs.Answering.{command_items}
use Rattle.cs_slices.specs.Messages.{cs_name}
use Rattle.cs_slices.specs.Tables.{TablePair}
use Rattle.cs_slices.specs.Happenings.{reading}
use Rattle.cs_slices.specs.Slices.{next_slice}
use Rattle.cs_slices.specs.Wakeups.{Input, input_of, heard_at}
use Rattle.cs_slices.specs.Histories.{tables_after, before_slice, happened_of, slice_at}
use Rattle.cs_slices.specs.Answers.{slice_items}
use Rattle.cs_slices.specs.Step.{turn_of, cs_answers, cs_items}
use Rattle.cs_slices.specs.State.{DutyStands, Stands}
use Rattle.cs_slices.proofs.Histories.{stands_unordered, stands_more, items_all}
use Rattle.cs_slices.proofs.state.Cs.advance.Goals as goal

pub returns-clause-stands : goal.returns-clause-stands
unfolding Stands
returns-clause-stands c = λ tables history in_force stood.
    let input : Input = input_of c.args.now c.args.commands.now c.args.window in
    let now = tables_after tables history in
    let happened = before_slice now (happened_of tables history) input in
    let before = stands_unordered now (happened_of tables history) _ stood.duty in
    stands_more tables history input _
    (c.handle_all.ensures.counts (turn_of tables history input) (in_force, refl) before stood.counts)
    (subst (λ (t : TablePair). DutyStands t happened c.handle_all.new.state → DutyStands t (happened ++ reading (next_slice t happened (seen c.args.window))) c.read_next.new.duty) in_force
    (c.read_next.ensures.stands happened) (c.handle_all.ensures.stands (turn_of tables history input) (in_force, refl) before))

pub returns-clause-items : goal.returns-clause-items
unfolding Stands cs_items slice_at
returns-clause-items c = λ tables history in_force stood.
    let input : Input = input_of c.args.now c.args.commands.now c.args.window in
    let now = tables_after tables history in
    let happened = before_slice now (happened_of tables history) input in
    let before = stands_unordered now (happened_of tables history) _ stood.duty in
    items_all c.args.out.now c.handle_all.new.out c.read_next.new.out (command_items cs_answers cs_name (turn_of tables history input) (heard_at now input))
    (slice_items c.args.now happened (next_slice now happened (seen c.args.window)))
    c.requires.empty (c.handle_all.ensures.items (turn_of tables history input) (in_force, refl) before stood.counts)
    (subst (λ (t : TablePair). DutyStands t happened c.handle_all.new.state → c.read_next.new.out ≡ adding c.handle_all.new.out (slice_items c.args.now happened (next_slice t happened (seen c.args.window)))) in_force
    (c.read_next.ensures.items happened) (c.handle_all.ensures.stands (turn_of tables history input) (in_force, refl) before))
