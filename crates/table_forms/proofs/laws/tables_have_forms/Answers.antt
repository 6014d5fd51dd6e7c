use Rattle.table_forms.proofs.LayoutsLemmas.{layouts_are, form_is, form_fits}
use Rattle.table_forms.proofs.laws.tables_have_forms.Goals as goal

pub returns : goal.returns
returns c = record { form = λ ls kind good. form_is ls kind (layouts_are ls good); fits = λ ls kind size good fits. form_fits ls kind size (layouts_are ls good) fits }
