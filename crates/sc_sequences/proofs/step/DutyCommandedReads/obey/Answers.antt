use Rattle.std.proofs.Common.{sym}
use Rattle.bus_pipes.proofs.Deliveries.{adding_none}
use Rattle.sc_sequences.specs.Orders.{obeyed}
use Rattle.sc_sequences.specs.Histories.{sequences_of, tables_after}
use Rattle.sc_sequences.proofs.Waking.{more_stand}
use Rattle.sc_sequences.proofs.step.DutyCommandedReads.obey.Goals as goal

pub returns-clause-stands : goal.returns-clause-stands
returns-clause-stands c = λ wakeup orders belongs stood. record {
  cursors =
      more_stand c.args.reads.tables.now (tables_after wakeup.setup wakeup.history) c.args.now wakeup.input.time (sequences_of wakeup.setup wakeup.history).all orders c.args.instruction.now c.args.self.now.cursors c.obey.new.cursors
      belongs.0 belongs.1 stood.cursors c.obey.ensures;
  sent = stood.sent;
  wrong = stood.wrong;
}

pub returns-clause-items : goal.returns-clause-items
returns-clause-items c = λ wakeup orders belongs stood. sym (adding_none c.args.out.now)

pub returns-clause-safe : goal.returns-clause-safe
returns-clause-safe c = λ n below safe.
    (record safe.0 { all = obeyed c.args.now safe.0.all c.args.instruction.now }, record { cursors = c.obey.ensures safe.0.all safe.1.cursors; sent = safe.1.sent; wrong = safe.1.wrong })
