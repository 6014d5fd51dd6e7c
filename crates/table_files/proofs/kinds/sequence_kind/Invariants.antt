use Rattle.std.proofs.Common.{◌≡◌, ◌-◌, map}
use Rattle.std.specs.List.{range_with_len}
use Rattle.table_files.specs.Kinds.{kind_among, rts_table, rts_tables}
use Rattle.table_files.proofs.kinds.sequence_kind.Given as goal

-- no sequence before this one has the name
abbrev pub invariant-numbers : goal.invariant-numbers
invariant-numbers l = kind_among rts_tables l.field ≡ kind_among (map rts_table (range_with_len l.n (65 - l.n))) l.field
