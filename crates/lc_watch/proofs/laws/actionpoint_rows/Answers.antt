use Rattle.std.proofs.Common.{refl}
use Rattle.packet_forms.specs.Numbers.{be16_at}
use Rattle.lc_watch.specs.Expressions.{words_at, values_left}
use Rattle.lc_watch.specs.Actionpoints as a
use Rattle.lc_watch.proofs.laws.actionpoint_rows.Goals as goal

pub returns : goal.returns
unfolding be16_at words_at values_left a.row_reason
returns c = record {
  row = refl;
  state = refl;
  unused = refl;
  no_sequence = refl;
  past_sequences = refl;
  no_failures = refl;
  no_words = refl;
  too_many_words = refl;
  one_word = refl;
  all_words = refl;
  no_operand = refl;
  two_values = refl;
  no_such_word = refl;
}
