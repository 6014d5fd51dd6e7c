use Rattle.std.proofs.Common.{refl}
use Rattle.packet_forms.specs.Numbers.{be16_at, be32_at}
use Rattle.packet_forms.specs.Packets.{message_id, function_code, is_checksum_right, checksum_of, payload_of, is_command}
use Rattle.histories.specs.Words.{from_last, last_or, last_place}
use Rattle.histories.specs.Entries.{wakeups, activations, in_force, wakeups_before}
use Rattle.commands.specs.Verdicts.{verdict_at, verdicts_on, orders_in}
use Rattle.md_dwell.specs.Messages.{md_codes, md_name}
use Rattle.md_dwell.specs.Tables.{blank_table}
use Rattle.md_dwell.specs.Reading.{value_of}
use Rattle.md_dwell.specs.Instructions.{instruction_of}
use Rattle.md_dwell.specs.Verdicts.{is_readable}
use Rattle.md_dwell.specs.Orders.{entries_after, is_on_after, starts_in}
use Rattle.md_dwell.specs.Histories.{orders_since, started_at}
use Rattle.md_dwell.proofs.laws.activations_forget.Goals as goal

pub returns : goal.returns
unfolding be16_at be32_at message_id function_code is_checksum_right checksum_of payload_of is_command from_last last_or last_place wakeups activations in_force wakeups_before verdict_at verdicts_on orders_in md_codes md_name blank_table value_of instruction_of is_readable entries_after is_on_after starts_in orders_since started_at
returns c = record {
  jammed = refl;
  jam_forgotten = refl;
  jammed_later = refl;
  jam_kept = refl;
  stop_forgotten = refl;
  start_forgotten = refl;
  stopped_later = refl;
  stop_kept = refl;
  in_force = refl;
  started = refl;
  started_before = refl;
}
