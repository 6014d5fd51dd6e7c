use Rattle.std.proofs.Common.{refl}
use Rattle.packet_forms.specs.Numbers.{be16_bytes, be32_bytes}
use Rattle.packet_forms.specs.Names.{name_of}
use Rattle.packet_forms.specs.Built.{telemetry_of, primary_header, event_of, event_payload}
use Rattle.histories.specs.Words.{along, along_after, joined_along, last_or}
use Rattle.histories.specs.Masks.{bits_of}
use Rattle.commands.specs.Verdicts.{orders_in}
use Rattle.commands.specs.Counting.{accepted_count, error_count}
use Rattle.commands.specs.Answering.{packet_items, command_items}
use Rattle.commands.specs.Machine.{machine_name, runs_after}
use Rattle.commands.proofs.laws.answer_rows.Goals as goal

pub returns : goal.returns
unfolding be16_bytes be32_bytes name_of telemetry_of primary_header event_of event_payload along along_after joined_along last_or bits_of orders_in accepted_count error_count packet_items command_items machine_name runs_after
returns c = record { items = refl; counts = refl }
