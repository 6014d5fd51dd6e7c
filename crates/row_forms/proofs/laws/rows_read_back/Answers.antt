use Rattle.std.proofs.Common.{◌∙◌, ap}
use Rattle.row_forms.specs.Rows.{row_said, row_words}
use Rattle.row_forms.proofs.TextLemmas.{words_spaced}
use Rattle.row_forms.proofs.BackLemmas.{row_back, row_words_are}
use Rattle.row_forms.proofs.laws.rows_read_back.Goals as goal

pub returns : goal.returns
returns c = λ epoch n fields bytes good all is.
    ap (row_said epoch n fields) (words_spaced (row_words fields bytes) (row_words_are fields bytes good all is)) ∙ row_back epoch n fields bytes good all is
