use Rattle.std.proofs.Common.{sym, ◌∙◌}
use Rattle.table_files.specs.Kinds.{named_kind, named_tables, rts_tables}
use Rattle.table_files.proofs.Names.{among_first, among_others}
use Rattle.table_files.proofs.kinds.named_kind.Goals as goal

pub returns-in-Some : goal.returns-in-Some
unfolding named_kind
returns-in-Some c = sym (among_first named_tables rts_tables c.args.field.now c.in-Some.kind (sym c.kind_among.ensures ∙ c.in-Some.is))

pub returns-in-None : goal.returns-in-None
unfolding named_kind
returns-in-None c = c.sequence_kind.ensures ∙ sym (among_others named_tables rts_tables c.args.field.now (sym c.kind_among.ensures ∙ c.in-None.is))
