use Rattle.std.proofs.Common.{sym, ap, ◌∙◌}
use Rattle.table_files.specs.Kinds.{named_kind}
use Rattle.table_files.proofs.Accepted.{table_long, named, kind_named}
use Rattle.table_files.proofs.headers.kind_of.Goals as goal

pub name_field-requires : goal.name_field-requires
name_field-requires c = table_long c.args.bytes.now c.requires.file c.requires.table

pub unreachable-requires : goal.unreachable-requires
unreachable-requires c =
    named c.args.bytes.now c.requires.file c.requires.table (ap named_kind (sym c.name_field.ensures) ∙ sym c.named_kind.ensures ∙ c.in-None.is)

pub returns : goal.returns
returns c =
    kind_named c.args.bytes.now c.requires.file c.requires.table ∙ ap named_kind (sym c.name_field.ensures) ∙ sym c.named_kind.ensures ∙ c.in-Some.is
