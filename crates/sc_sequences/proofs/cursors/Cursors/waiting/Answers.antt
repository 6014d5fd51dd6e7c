use Rattle.std.proofs.Common.{ap}
use Rattle.sc_sequences.specs.declared.cursors.Cursor.{Cursor}
use Rattle.sc_sequences.proofs.Keys.{waiting_stand}
use Rattle.sc_sequences.proofs.cursors.Cursors.waiting.Goals as goal

pub invariant_of-result : goal.invariant_of-result
invariant_of-result c = waiting_stand c.waiting.result (ap (λ (k : Cursor). k.next) c.waiting.ensures)
