use Rattle.std.proofs.Common.{refl}
use Rattle.std.specs.Fmt.{digits as fmt_digits}
use Rattle.packet_forms.specs.Numbers.{be16_at}
use Rattle.packet_forms.specs.Names.{is_name_text, name_of}
use Rattle.packet_forms.specs.Packets.{version_of, sequence_flags, length_field}
use Rattle.packet_forms.specs.Faults.{fault_of}
use Rattle.row_forms.specs.Words.{digits, name_said}
use Rattle.log_lines.specs.Lines.{line_words, frame_said, bytes_said, packet_said, pipe_said, cause_said, drop_said, item_said, words_said, line_said}
use Rattle.log_lines.specs.Texts.{lf_parts}
use Rattle.log_lines.specs.Logs.{log_said, cut_in}
use Rattle.log_lines.proofs.laws.worked_lines.Goals as goal

pub returns : goal.returns
unfolding fmt_digits be16_at is_name_text name_of version_of sequence_flags length_field fault_of digits name_said line_words frame_said bytes_said packet_said pipe_said cause_said drop_said item_said words_said line_said lf_parts log_said cut_in
returns c = record {
  packet = refl;
  limit = refl;
  full = refl;
  reset = refl;
  restart = refl;
  delete = refl;
}
