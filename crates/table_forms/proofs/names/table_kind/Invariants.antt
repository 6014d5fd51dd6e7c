use Rattle.std.proofs.Common.{◌≡◌, drop}
use Rattle.table_forms.specs.Names.{kind_said}
use Rattle.table_forms.proofs.NameLemmas.{kind_called}
use Rattle.table_forms.proofs.names.table_kind.Given as goal

-- no table before this one has the name
abbrev pub invariant-loop-table : goal.invariant-loop-table
invariant-loop-table l = kind_said l.name ≡ kind_called (drop l.table-index l.names) l.name
