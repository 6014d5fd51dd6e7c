use Rattle.table_forms.proofs.PayloadLemmas.{open_is}
use Rattle.table_forms.proofs.HeaderLemmas.{open_row}
use Rattle.table_forms.proofs.showing.show_head.Goals as goal

pub show_row-requires : goal.show_row-requires
show_row-requires c = open_row _ _ (rw c.requires.long (open_is _ _ c.requires.head).all)
