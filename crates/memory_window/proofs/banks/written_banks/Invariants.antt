use Rattle.std.proofs.Common.{◌≤◌}
use Rattle.memory_window.proofs.banks.written_banks.Given as goal

abbrev pub invariant-loop-bank : goal.invariant-loop-bank
invariant-loop-bank l = l.written ≤ l.bank
