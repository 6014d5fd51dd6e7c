-- When a state of CS stands for the tables with which its history began and for its entries, and when it has nothing to do.
use Rattle.std.specs.Prelude.{◌≡◌, ◌<◌, ℕ, ◌==◌, Bool, not, ◌&&◌, List, length, false, slice_index_or, None}
use Rattle.packet_forms.specs.Crc.{crc_of}
use Rattle.commands.specs.Counting.{counts_of}
use Rattle.cs_slices.specs.Tables.{TablePair}
use Rattle.cs_slices.specs.Happenings.{Happening, orders_among, slices_among, since_slice, orders_since}
use Rattle.cs_slices.specs.Orders.{table_of, is_cs_on, is_table_on, is_entry_on, some_take_part}
use Rattle.cs_slices.specs.Slices.{current_place, offset_at}
use Rattle.cs_slices.specs.Passes.{baseline_at, miscompare_count, pass_count, begun_bytes}
use Rattle.cs_slices.specs.Histories.{CsEntry, tables_after, happened_of}
use Rattle.cs_slices.specs.Step.{cs_heard}
use Rattle.cs_slices.specs.declared.switches.Switches.{Switches}
use Rattle.cs_slices.specs.declared.passing.Passing.{Passing}
use Rattle.cs_slices.specs.declared.tally.Tally.{Tally}
use Rattle.cs_slices.specs.declared.duty.Duty.{Duty}
use Rattle.cs_slices.specs.declared.state.Cs.{Cs}

-- What is on stands for the tables in force and what happened.
pub record SwitchesStand (tables : TablePair) (happened : List Happening) (s : Switches) : Type 0 where
  pub cs : s.cs ≡ is_cs_on (orders_among happened)
  pub eeprom : s.eeprom ≡ is_table_on 1 (orders_among happened)
  pub memory : s.memory ≡ is_table_on 2 (orders_among happened)
  pub whole : length s.entries ≡ 32
  pub each : (k : ℕ) → k < 32 → slice_index_or s.entries k false ≡ is_entry_on tables k (orders_since (table_of k) happened)

-- The current place, and the offset and the running check of the pass that has begun there, stand for what happened.
pub record PassingStands (happened : List Happening) (p : Passing) : Type 0 where
  pub place : p.place ≡ current_place (slices_among happened)
  pub offset : p.offset ≡ offset_at (current_place (slices_among happened)) (slices_among happened) (since_slice happened)
  pub check : p.check ≡ crc_of 0 (begun_bytes happened)

-- The baselines, the miscompares and the number of whole passes stand for what happened.
pub record TallyStands (happened : List Happening) (t : Tally) : Type 0 where
  pub whole : length t.baselines ≡ 32
  pub baselines : (k : ℕ) → k < 32 → slice_index_or t.baselines k None ≡ baseline_at k happened
  pub eeprom : t.eeprom ≡ miscompare_count 1 happened
  pub memory : t.memory ≡ miscompare_count 2 happened
  pub passes : t.passes ≡ pass_count (slices_among happened)

-- The duty stands for the tables in force and what happened.
pub record DutyStands (tables : TablePair) (happened : List Happening) (duty : Duty) : Type 0 where
  pub switches : SwitchesStand tables happened duty.switches
  pub passing : PassingStands happened duty.passing
  pub tally : TallyStands happened duty.tally

-- The state stands for the tables with which a history began, and for the history.
pub record StandsFor (tables : TablePair) (history : List CsEntry) (cs : Cs) : Type 0 where
  pub counts : cs.counts ≡ counts_of (cs_heard tables history)
  pub duty : DutyStands (tables_after tables history) (happened_of tables history) cs.duty

unfoldable pub Stands : TablePair → List CsEntry → Cs → Type 0
Stands tables history cs = StandsFor tables history cs

-- Without packets CS has nothing to do where no place takes part.
unfoldable pub is_idle_on : TablePair → List CsEntry → List (List ℕ) → Bool
is_idle_on tables history commands = (length commands == 0) && not (some_take_part (tables_after tables history) (happened_of tables history))
