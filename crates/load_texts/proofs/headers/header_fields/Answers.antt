use Rattle.std.proofs.Common.{refl}
use Rattle.row_forms.specs.Values.{is_kind}
use Rattle.load_texts.specs.Headers.{shows_all, is_header, all_fields}
use Rattle.load_texts.proofs.headers.header_fields.Goals as goal

pub returns-clause-listed : goal.returns-clause-listed
unfolding all_fields
returns-clause-listed c = refl

pub returns-clause-good : goal.returns-clause-good
unfolding is_header shows_all is_kind
returns-clause-good c = refl
