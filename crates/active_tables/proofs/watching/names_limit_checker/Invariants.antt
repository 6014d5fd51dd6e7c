use Rattle.std.proofs.Common.{◌≡◌, drop}
use Rattle.std.specs.List.{list_any}
use Rattle.active_tables.specs.Tables.{names_limits}
use Rattle.active_tables.proofs.watching.names_limit_checker.Given as goal

-- none of the files so far is a table of LC
abbrev pub invariant-files : goal.invariant-files
invariant-files l = list_any names_limits l.files ≡ list_any names_limits (drop l.i l.files)
