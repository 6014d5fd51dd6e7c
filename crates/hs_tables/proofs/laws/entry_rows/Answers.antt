use Rattle.std.proofs.Common.{refl}
use Rattle.packet_forms.specs.Numbers.{be16_at}
use Rattle.packet_forms.specs.Packets.{version_of, sequence_flags, length_field}
use Rattle.packet_forms.specs.Faults.{fault_of}
use Rattle.packet_forms.specs.Names.{is_name, is_name_text, name_text}
use Rattle.hs_tables.specs.Actions.{packet_in}
use Rattle.hs_tables.proofs.laws.entry_rows.Goals as goal

pub returns : goal.returns
unfolding be16_at version_of sequence_flags length_field fault_of is_name is_name_text name_text packet_in
returns c = record { app = refl; event = refl; count = refl; act = refl }
