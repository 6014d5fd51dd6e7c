-- The commands that the lines of a sequence's text mean.
use Rattle.std.specs.Prelude.{ℕ, List, [], ◌∷◌, ◌++◌, length, take, drop, codes, if◌then◌else◌, Option, Some, None, option_map, Result, Ok, Err}
use Rattle.std.specs.Str.{bytes_eq}
use Rattle.row_forms.specs.Words.{hex_said}
use Rattle.telecommands.specs.declared.command.Command.{Command}
use Rattle.telecommands.specs.declared.fault.CommandFault.{CommandFault}
use Rattle.telecommands.specs.Commands.{command_said}
use Rattle.table_texts.specs.Lines.{Numbered}
use Rattle.table_texts.specs.Endings.{is_end, behind_first}
use Rattle.table_forms.specs.Layouts.{all_layouts}
use Rattle.table_forms.specs.Payloads.{begins}
use Rattle.table_files.specs.declared.fault.EntryFault.{EntryFault}
use Rattle.sc_tables.specs.Grammar.{EntryForm, read_from}
use Rattle.sc_tables.specs.declared.absolute.Timed.{Timed}
use Rattle.sc_tables.specs.declared.relative.Relative.{Relative}
use Rattle.table_meanings.specs.Meanings.{Keyed, meanings_said, amount_in}

-- a command with its number and its time, and the packet that its telecommand says
abbrev pub timed_of : Option (List Keyed) → Result (List ℕ) CommandFault → Option Timed
timed_of (Some ms) (Ok packet) = Some (record { number = amount_in ms (codes "number"); tag = amount_in ms (codes "time"); packet = packet })
timed_of (Some ms) (Err fault) = None
timed_of None said = None

-- a command with the seconds before it
abbrev pub relative_of : Option (List Keyed) → Result (List ℕ) CommandFault → Option Relative
relative_of (Some ms) (Ok packet) = Some (record { tag = amount_in ms (codes "after"); packet = packet })
relative_of (Some ms) (Err fault) = None
relative_of None said = None

-- the words behind `command`: two fields or one, and the telecommand behind them
unfoldable pub timed_meant : Option ℕ → List Command → List (List ℕ) → Option Timed
timed_meant epoch cs ws = timed_of (meanings_said epoch all_layouts.absolute.now (take 2 ws)) (command_said epoch 4 cs (drop 2 ws))

unfoldable pub relative_meant : Option ℕ → List Command → List (List ℕ) → Option Relative
relative_meant epoch cs ws = relative_of (meanings_said epoch all_layouts.relative.now (take 1 ws)) (command_said epoch 3 cs (drop 1 ws))

-- what a line means: a command, by the words behind its first one
abbrev pub command_meant : {E : Type 0} → (List (List ℕ) → Option E) → List (List ℕ) → Option E
command_meant said [] = None
command_meant said (w ∷ ws) = if bytes_eq w (codes "command") then said ws else None

-- ---- the bytes that lines say

-- the bytes of the one word behind `raw`
abbrev pub raw_said : List (List ℕ) → Option (List ℕ)
raw_said [] = None
raw_said (w ∷ []) = hex_said w
raw_said (w ∷ v ∷ ws) = None

-- the bytes of a line: those that it says behind `raw`, or those by which its command is spelled
abbrev pub line_bytes : {E : Type 0} → (List (List ℕ) → Option E) → (E → List ℕ) → List (List ℕ) → Option (List ℕ)
line_bytes said spelled ws = if begins (codes "raw") ws then raw_said (behind_first ws) else option_map spelled (command_meant said ws)

abbrev pub bytes_before : Option (List ℕ) → Option (List ℕ) → Option (List ℕ)
bytes_before (Some bytes) (Some rest) = Some (bytes ++ rest)
bytes_before (Some bytes) None = None
bytes_before None rest = None

-- the bytes of the lines in front of `end`, one after another
unfoldable pub bytes_meant : {E : Type 0} → (List (List ℕ) → Option E) → (E → List ℕ) → List Numbered → Option (List ℕ)
bytes_meant said spelled [] = Some []
bytes_meant said spelled (line ∷ more) =
    if is_end line.words then Some [] else bytes_before (line_bytes said spelled line.words) (bytes_meant said spelled more)

-- ---- the commands that lines mean

-- the commands of the lines up to the first `raw`, and the bytes of the lines from it on
pub record Parted (E : Type 0) : Type 0 where
  pub commands : List E
  pub bytes : List ℕ

abbrev pub parted : {E : Type 0} → List E → List ℕ → Parted E
parted commands bytes = record { commands = commands; bytes = bytes }

abbrev pub command_before : {E : Type 0} → Option E → Option (Parted E) → Option (Parted E)
command_before (Some c) (Some rest) = Some (parted (c ∷ rest.commands) rest.bytes)
command_before (Some c) None = None
command_before None rest = None

-- what the lines in front of `end` mean: commands in their order, and from the first line `raw` on bytes
unfoldable pub sequence_meant : {E : Type 0} → (List (List ℕ) → Option E) → (E → List ℕ) → List Numbered → Option (Parted E)
sequence_meant said spelled [] = Some (parted [] [])
sequence_meant said spelled (line ∷ more) =
    if is_end line.words then Some (parted [] [])
    else if begins (codes "raw") line.words then option_map (parted []) (bytes_meant said spelled (line ∷ more))
    else command_before (command_meant said line.words) (sequence_meant said spelled more)

-- the commands, and behind them those that the loader reads in the bytes
unfoldable pub commands_read : {E : Type 0} → EntryForm E → Parted E → Result (List E) EntryFault
commands_read form meant = read_from form (length meant.bytes) meant.commands meant.bytes
