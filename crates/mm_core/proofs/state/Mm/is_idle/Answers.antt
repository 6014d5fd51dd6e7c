use Rattle.std.proofs.Common.{sym, ◌∙◌}
use Rattle.commands.proofs.Heard.{no_packets}
use Rattle.mm_core.specs.State.{Stands}
use Rattle.mm_core.proofs.Wakeups.{heard_asleep, items_asleep, operations_asleep}
use Rattle.mm_core.proofs.state.Mm.is_idle.Goals as goal

pub returns-clause-stands : goal.returns-clause-stands
unfolding Stands
returns-clause-stands c = λ history input idle is stood. rw (heard_asleep history input (is ∙ no_packets c.args.commands.now (sym c.is_empty.ensures ∙ idle))) stood

pub returns-clause-items : goal.returns-clause-items
returns-clause-items c = λ history input idle is. items_asleep history input (is ∙ no_packets c.args.commands.now (sym c.is_empty.ensures ∙ idle))

pub returns-clause-operations : goal.returns-clause-operations
returns-clause-operations c = λ input idle is. operations_asleep input (is ∙ no_packets c.args.commands.now (sym c.is_empty.ensures ∙ idle))
