use Rattle.std.proofs.Common.{◌≡◌, drop}
use Rattle.commands.specs.Rows.{row_of}
use Rattle.commands.proofs.verdicts.row_of.Given as goal

-- no row before this one has the code
abbrev pub invariant-loop-row : goal.invariant-loop-row
invariant-loop-row l = row_of l.rows l.code ≡ row_of (drop l.row-index l.rows) l.code
