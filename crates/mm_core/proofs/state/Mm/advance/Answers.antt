use Rattle.std.proofs.Common.{List, [], ◌++◌, refl, sym, ap, ◌∙◌}
use Rattle.bus_pipes.specs.Held.{Held}
use Rattle.bus_pipes.specs.declared.names.Out.{Out}
use Rattle.bus_pipes.proofs.Deliveries.{items-adding}
use Rattle.commands.specs.Counting.{counts_of}
use Rattle.table_files.specs.Files.{loads_of}
use Rattle.mm_core.specs.Step.{Input, input_of, turn_of, mm_items, mm_operations}
use Rattle.mm_core.specs.State.{Stands}
use Rattle.mm_core.proofs.Wakeups.{heard_wakeup}
use Rattle.mm_core.proofs.Landing.{operations_none}
use Rattle.mm_core.proofs.state.Mm.advance.Goals as goal

pub returns-clause-stands : goal.returns-clause-stands
unfolding Stands
returns-clause-stands c = λ history stood.
    let input : Input = input_of c.args.now c.args.commands.now c.args.window c.args.files.now in
    c.handle_all.ensures.counts (turn_of history input) (refl, refl) (c.requires.no_ops ∙ sym (operations_none (loads_of c.args.files.now))) stood ∙ ap counts_of (sym (heard_wakeup history input))

pub returns-clause-items : goal.returns-clause-items
unfolding Stands mm_items
returns-clause-items c = λ history stood.
    let input : Input = input_of c.args.now c.args.commands.now c.args.window c.args.files.now in
    ap (λ (held : Held Out). held.items) (c.handle_all.ensures.items (turn_of history input) (refl, refl) (c.requires.no_ops ∙ sym (operations_none (loads_of c.args.files.now))) stood)
    ∙ items-adding c.args.out.now (mm_items history input)
    ∙ ap (λ (items : List Out). items ++ mm_items history input) c.requires.empty

pub returns-clause-ops : goal.returns-clause-ops
unfolding mm_operations
returns-clause-ops c =
    let input : Input = input_of c.args.now c.args.commands.now c.args.window c.args.files.now in
    c.handle_all.ensures.stands (turn_of [] input) (refl, refl) (c.requires.no_ops ∙ sym (operations_none (loads_of c.args.files.now)))
