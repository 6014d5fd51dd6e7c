use Rattle.std.proofs.Common.{refl}
use Rattle.packet_forms.specs.Numbers.{be16_at}
use Rattle.packet_forms.specs.Packets.{version_of, sequence_flags, length_field}
use Rattle.packet_forms.specs.Faults.{fault_of}
use Rattle.packet_forms.specs.Names.{is_name, is_name_text, name_text}
use Rattle.table_files.specs.Entries.{first_fault, entries_in}
use Rattle.hs_tables.specs.Apps as apps
use Rattle.hs_tables.specs.Events as events
use Rattle.hs_tables.specs.Counters as counters
use Rattle.hs_tables.specs.Actions as actions
use Rattle.hs_tables.proofs.laws.blank_tables.Goals as goal

pub returns : goal.returns
unfolding be16_at version_of sequence_flags length_field fault_of is_name is_name_text name_text first_fault entries_in apps.row_reason apps.rows_of apps.rows_fault_of apps.blank_rows events.row_reason events.rows_of events.rows_fault_of events.blank_rows counters.row_reason counters.rows_of counters.rows_fault_of counters.blank_rows actions.packet_in actions.row_reason actions.rows_of actions.rows_fault_of actions.blank_rows
returns c = record {
  app_fault = refl;
  app = refl;
  event_fault = refl;
  event = refl;
  count_fault = refl;
  count = refl;
  act_fault = refl;
  act = refl;
}
