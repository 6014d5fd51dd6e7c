-- What a history of Stored Command has: what it begins with, and its entries, the oldest first.
use Rattle.std.specs.Prelude.{ℕ, true, if◌then◌else◌, List, [], map}
use Rattle.std.specs.List.{fold}
use Rattle.histories.specs.Entries.{Entry}
use Rattle.histories.specs.Entries.Entry.{Woken, Activated}
use Rattle.commands.specs.Inputs.{Input as CommandInput}
use Rattle.commands.specs.Verdicts.{verdicts_on, orders_in}
use Rattle.commands.specs.declared.verdicts.Verdict.{Verdict}
use Rattle.sc_tables.specs.Commands.{TimedCommand}
use Rattle.sc_sequences.specs.Sequences.{Sequence, is_loaded, waiting, with_at, going_on, tables_of}
use Rattle.sc_sequences.specs.Orders.{after_orders}
use Rattle.sc_sequences.specs.Verdicts.{Basis, sc_protocol}
use Rattle.sc_sequences.specs.Turns.{Sequences, Done, turns}
use Rattle.sc_sequences.specs.declared.instructions.Instruction.{Instruction}

-- What is read in a wakeup: the time, the packets of the pipe, and nothing beside them.
abbrev pub Input : Type 0
Input = CommandInput (Unit {0})

abbrev pub input_of : ℕ → List (List ℕ) → Input
input_of now commands = record { time = now; commands = commands; seen = tt }

-- A table that becomes active: the commands of the sequence in a place.
pub record Activation : Type 0 where
  pub place : ℕ
  pub commands : List TimedCommand

abbrev pub activation_at : ℕ → List TimedCommand → Activation
activation_at place commands = record { place = place; commands = commands }

-- An entry of a history is a wakeup with what is read in it, or an activation.
abbrev pub ScEntry : Type 0
ScEntry = Entry Input Activation

-- What a history begins with: the time of the start, and the tables of all sequences.
pub record Beginning : Type 0 where
  pub time : ℕ
  pub tables : List (List TimedCommand)

abbrev pub begun_at : ℕ → List (List TimedCommand) → Beginning
begun_at time tables = record { time = time; tables = tables }

-- The first relative sequence is enabled and started at the start, where it is loaded. All others wait.
abbrev pub first_started : ℕ → Sequence → Sequence
first_started time s = if is_loaded s then record (going_on 2 time s.loaded s) { enabled = true } else s

unfoldable pub at_start : Beginning → Sequences
at_start begin = record { all = with_at 2 (first_started begin.time) (map waiting begin.tables); sent = 0; wrong = 0 }

-- The sequences as a wakeup's commands find them, and behind what was ordered in it.
abbrev pub basis_of : Sequences → Input → Basis
basis_of s input = record { time = input.time; all = s.all }

abbrev pub ordered : ℕ → List Instruction → Sequences → Sequences
ordered now orders s = record s { all = after_orders now s.all orders }

-- The verdicts on the packets of a wakeup, and what was ordered in it.
abbrev pub heard_at : Sequences → Input → List (Verdict Instruction)
heard_at s input = verdicts_on sc_protocol (basis_of s input) input.commands

abbrev pub ordered_at : Sequences → Input → List Instruction
ordered_at s input = orders_in (heard_at s input)

-- What is done in a wakeup behind its commands: at most eight turns.
abbrev pub turned : Sequences → Input → Done
turned s input = turns 8 input.time (ordered input.time (ordered_at s input) s)

-- An activation changes what is loaded in a place, and nothing else.
abbrev pub with_loaded : List TimedCommand → Sequence → Sequence
with_loaded commands s = record s { loaded = commands }

-- The sequences behind an entry, and behind all entries of a history.
abbrev pub after_entry : Sequences → ScEntry → Sequences
after_entry s (Woken input) = (turned s input).after
after_entry s (Activated a) = record s { all = with_at a.place (with_loaded a.commands) s.all }

unfoldable pub sequences_of : Beginning → List ScEntry → Sequences
sequences_of begin history = fold after_entry (at_start begin) history

-- The tables in force behind these entries.
abbrev pub tables_after : Beginning → List ScEntry → List (List TimedCommand)
tables_after begin history = tables_of (sequences_of begin history).all

-- The packets that are read in an entry.
abbrev pub packets_in : ScEntry → List (List ℕ)
packets_in (Woken input) = input.commands
packets_in (Activated a) = []

-- What refusals are decided by in an entry: an activation has no packets.
abbrev pub basis_in : Beginning → List ScEntry → ScEntry → Basis
basis_in begin earlier (Woken input) = basis_of (sequences_of begin earlier) input
basis_in begin earlier (Activated a) = record { time = 0; all = (sequences_of begin earlier).all }
