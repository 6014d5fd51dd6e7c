use Rattle.table_files.proofs.Accepted.{kind_known}
use Rattle.table_forms.proofs.LayoutsLemmas.{layouts_are, form_is}
use Rattle.table_forms.proofs.FileLemmas.{behind_long, payload_fits}
use Rattle.table_forms.proofs.showing.show_table.Goals as goal

pub push_name-requires : goal.push_name-requires
push_name-requires c = kind_known _ _ c.requires.kind

pub show_header-requires-clause-fields : goal.show_header-requires-clause-fields
show_header-requires-clause-fields c = (layouts_are _ c.requires.layouts).header

pub show_header-requires-clause-bytes : goal.show_header-requires-clause-bytes
show_header-requires-clause-bytes c = behind_long _ c.args.kind _ c.requires.kind c.behind.ensures

pub show_payload-requires-clause-head : goal.show_payload-requires-clause-head
show_payload-requires-clause-head c = (layouts_are _ c.requires.layouts).head

pub show_payload-requires-clause-form : goal.show_payload-requires-clause-form
show_payload-requires-clause-form c = rw c.form.ensures (form_is c.args.forms.now.layouts.now c.args.kind (layouts_are _ c.requires.layouts))

pub show_payload-requires-clause-fits : goal.show_payload-requires-clause-fits
show_payload-requires-clause-fits c = rw c.form.ensures (payload_fits c.args.forms.now.layouts.now c.args.kind c.args.file.now _ (layouts_are _ c.requires.layouts) c.requires.kind c.behind-2.ensures)
