use Rattle.std.proofs.Common.{refl, ◌∙◌}
use Rattle.bus_pipes.specs.declared.names.Out.TheVariants.{Stored}
use Rattle.bus_pipes.proofs.Deliveries.{adding_more}
use Rattle.commands.proofs.Heard.{one_more_counted}
use Rattle.lc_watch.proofs.answers.put_firing.Goals as goal

pub returns-clause-items : goal.returns-clause-items
returns-clause-items c = c.put_event.ensures.items ∙ rw (c.push.ensures.after, c.start_command.ensures) (adding_more c.args.out.now _ _)

pub returns-clause-counted : goal.returns-clause-counted
returns-clause-counted c = λ before. c.put_event.ensures.counted (one_more_counted c.args.out.now c.push.new.self (Stored c.start_command.result) c.push.ensures.after refl before)
