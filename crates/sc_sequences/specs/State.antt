-- When a state of Stored Command stands for what its history begins with and for its entries, and when it has nothing to do.
use Rattle.std.specs.Prelude.{◌≡◌, ◌<◌, ℕ, ◌==◌, ◌%◌, Bool, false, not, ◌&&◌, List, length, drop, Option, Some, None, option_map, is_some}
use Rattle.commands.specs.Counting.{counts_of}
use Rattle.table_files.specs.declared.kinds.TableKind.{TableKind}
use Rattle.table_files.specs.declared.kinds.TableKind.TheVariants.{AppMon, EventMon, ExeCount, MsgActs, Ats, Rts, Dwell, Eeprom, Memory, Wdt, Adt}
use Rattle.sc_tables.specs.Commands.{TimedCommand, commands_in}
use Rattle.sc_sequences.specs.Sequences.{Sequence, is_running, at_place, ats_place, rts_place, head_time}
use Rattle.sc_sequences.specs.Turns.{Sequences, next_place}
use Rattle.sc_sequences.specs.Histories.{ScEntry, Beginning, Activation, activation_at, sequences_of, tables_after}
use Rattle.sc_sequences.specs.Step.{sc_heard}
use Rattle.sc_sequences.specs.Cursors.{cursor_in}
use Rattle.sc_sequences.specs.declared.cursors.Cursor.{Cursor}
use Rattle.sc_sequences.specs.declared.duty.Duty.{Duty}
use Rattle.sc_sequences.specs.declared.state.Sc.{Sc}

-- The cursor of a sequence that has these commands stands for it: it has the time of the next command, and where one is left it says from
-- which on they are.
pub record CursorStands (commands : List TimedCommand) (s : Sequence) (c : Cursor) : Type 0 where
  pub loaded : s.loaded ≡ commands
  pub next : c.next ≡ head_time s
  pub left : (time : ℕ) → c.next ≡ Some time → drop c.at commands ≡ s.left
  pub enabled : c.enabled ≡ s.enabled

-- The cursors of all sequences stand for them, by their places.
pub record CursorsStand (tables : List (List TimedCommand)) (all : List Sequence) (cursors : List Cursor) : Type 0 where
  pub whole : length all ≡ 66
  pub places : length cursors ≡ 66
  pub each : (k : ℕ) → k < 66 → CursorStands (commands_in tables k) (at_place all k) (cursor_in cursors k)

-- The duty stands for the sequences.
pub record DutyStands (tables : List (List TimedCommand)) (s : Sequences) (duty : Duty) : Type 0 where
  pub cursors : CursorsStand tables s.all duty.cursors
  pub sent : duty.sent ≡ s.sent % 65536
  pub wrong : duty.wrong ≡ s.wrong % 65536

-- The state stands for what its history begins with and for its entries. One whose running sequence got another table stands for none.
pub record StandsFor (begin : Beginning) (history : List ScEntry) (sc : Sc) : Type 0 where
  pub counts : sc.counts ≡ counts_of (sc_heard begin history)
  pub duty : DutyStands (tables_after begin history) (sequences_of begin history) sc.duty

unfoldable pub Stands : Beginning → List ScEntry → Sc → Type 0
Stands begin history sc = StandsFor begin history sc

-- The state can take a wakeup on tables that are in force behind a history for which it stands.
pub record IsReady (tables : List (List TimedCommand)) (sc : Sc) : Type 0 where
  pub begin : Beginning
  pub history : List ScEntry
  pub in_force : tables ≡ tables_after begin history
  pub stands : Stands begin history sc

-- Stored Command has nothing to do where there are no packets and no command is due.
unfoldable pub is_idle_on : Beginning → List ScEntry → List (List ℕ) → ℕ → Bool
is_idle_on begin history commands now = (length commands == 0) && not (is_some (next_place now (sequences_of begin history).all))

-- The place of the sequence of a kind, none of a kind that isn't one.
abbrev pub sequence_place : TableKind → Option ℕ
sequence_place AppMon = None
sequence_place EventMon = None
sequence_place ExeCount = None
sequence_place MsgActs = None
sequence_place (Ats n) = ats_place n
sequence_place (Rts n) = rts_place n
sequence_place (Dwell n) = None
sequence_place Eeprom = None
sequence_place Memory = None
sequence_place Wdt = None
sequence_place Adt = None

-- Whether the sequence of a kind runs that stands in this place.
abbrev pub runs_in : List Sequence → Option ℕ → Bool
runs_in all None = false
runs_in all (Some place) = is_running (at_place all place)

-- The activation of the sequence of a kind with its commands in these tables; none of a kind that isn't one.
abbrev pub activation_of : TableKind → List (List TimedCommand) → Option Activation
activation_of kind tables = option_map (λ place. activation_at place (commands_in tables place)) (sequence_place kind)
