use Rattle.std.proofs.Common.{◌≡◌, ◌+◌, drop}
use Rattle.active_tables.specs.Tables.{first_said, refused_in}
use Rattle.active_tables.proofs.giving.refused_place.Given as goal

-- the entries of the files so far are given
abbrev pub invariant-files : goal.invariant-files
invariant-files l = first_said (refused_in l.map) 1 l.files ≡ first_said (refused_in l.map) (1 + l.i) (drop l.i l.files)
