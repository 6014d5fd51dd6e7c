use Rattle.std.proofs.Common.{◌≡◌, length, map}
use Rattle.table_files.specs.Kinds.{known_by, kind_among}
use Rattle.table_files.proofs.kinds.kind_among.Given as goal

-- no table before the rest has the name
abbrev pub invariant-loop-rest : goal.invariant-loop-rest
invariant-loop-rest l = kind_among (map known_by l.rows) l.field ≡ kind_among (map known_by l.rest) l.field

abbrev pub decreases-loop-rest : goal.decreases-loop-rest
decreases-loop-rest l = length l.rest
