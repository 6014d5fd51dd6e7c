use Rattle.std.proofs.Common.{◌∙◌}
use Rattle.table_forms.proofs.HeaderLemmas.{header_is_row}
use Rattle.table_forms.proofs.headers.show_header.Goals as goal

pub show_row-requires : goal.show_row-requires
show_row-requires c = header_is_row _ _ _ c.requires.fields c.requires.bytes (c.deref-2.ensures.value ∙ c.in_ok-put_header.ensures)
