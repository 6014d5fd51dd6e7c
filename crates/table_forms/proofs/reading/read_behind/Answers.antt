use Rattle.table_forms.proofs.LayoutsLemmas.{layouts_are, form_is}
use Rattle.table_forms.proofs.reading.read_behind.Goals as goal

pub read_header-requires-clause-fields : goal.read_header-requires-clause-fields
read_header-requires-clause-fields c = (layouts_are _ c.requires.layouts).header

pub read_payload-requires-clause-head : goal.read_payload-requires-clause-head
read_payload-requires-clause-head c = (layouts_are _ c.requires.layouts).head

pub read_payload-requires-clause-form : goal.read_payload-requires-clause-form
read_payload-requires-clause-form c = rw c.form-form.ensures (form_is c.args.forms.now.layouts.now c.args.first.now.kind (layouts_are _ c.requires.layouts))
