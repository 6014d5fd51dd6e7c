use Rattle.table_forms.proofs.NameLemmas.{said_known}
use Rattle.table_forms.proofs.KnownLemmas.{field_named, name_said, field_is}
use Rattle.table_forms.proofs.laws.tables_have_names.Goals as goal

pub returns : goal.returns
returns c = record { said = name_said; known = said_known; named = field_named; field = field_is }
