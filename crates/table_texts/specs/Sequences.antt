-- The commands of a sequence's text, and the bytes that they are.
use Rattle.std.specs.Prelude.{ℕ, zero, suc, ◌+◌, ◌==◌, if◌then◌else◌, List, [], ◌∷◌, ◌++◌, length, take, drop, codes, Option, Some, None, Result, Ok, Err}
use Rattle.std.specs.Str.{bytes_eq}
use Rattle.packet_forms.specs.Hex.{hex}
use Rattle.row_forms.specs.Words.{hex_said}
use Rattle.row_forms.specs.Rows.{with_front, row_shown}
use Rattle.row_forms.specs.declared.field.Field.{Field}
use Rattle.row_forms.specs.declared.fault.Reason.TheVariants as reasons
use Rattle.telecommands.specs.declared.command.Command.{Command}
use Rattle.telecommands.specs.Commands.{command_shown}
use Rattle.table_texts.specs.declared.fault.LineFault.{LineFault}
use Rattle.table_texts.specs.declared.fault.LineFault.TheVariants as faults
use Rattle.table_texts.specs.declared.fault.TextFault.{TextFault}
use Rattle.table_texts.specs.declared.sequences.SequenceForm.{SequenceForm}
use Rattle.table_texts.specs.Lines.{Numbered}
use Rattle.table_texts.specs.Endings.{row_fault, fault_on, ended, is_end, behind_first}
use Rattle.table_texts.specs.Fronts.{front_said, behind_front, packet_size, packet_behind, is_command_at}

abbrev pub some_bytes : Option (List ℕ) → Result (List ℕ) LineFault
some_bytes (Some bytes) = Ok bytes
some_bytes None = Err (row_fault 2 reasons.Block)

abbrev pub bytes_said : List (List ℕ) → Result (List ℕ) LineFault
bytes_said [] = Err (row_fault 2 reasons.Missing)
bytes_said (w ∷ []) = some_bytes (hex_said w)
bytes_said (w ∷ v ∷ ws) = Err (row_fault 3 reasons.Extra)

-- what a line says: a command with its fields in front, or `raw` and bytes
unfoldable pub item_said : Option ℕ → List Command → List Field → List (List ℕ) → Result (List ℕ) LineFault
item_said epoch cs fs [] = Err faults.Word
item_said epoch cs fs (w ∷ ws) =
    if bytes_eq w (codes "command") then behind_front epoch cs (length fs + 2) (front_said epoch 2 fs ws)
    else if bytes_eq w (codes "raw") then bytes_said ws
    else Err faults.Word

abbrev pub then_item : ℕ → Result (List ℕ) LineFault → Result (List ℕ) TextFault → Result (List ℕ) TextFault
then_item n (Ok bytes) said = with_front bytes said
then_item n (Err fault) said = Err (fault_on n fault)

-- the payload that lines say, of which the first would have number n
unfoldable pub sequence_said : Option ℕ → List Command → List Field → ℕ → List Numbered → Result (List ℕ) TextFault
sequence_said epoch cs fs n [] = Err (fault_on n faults.End)
sequence_said epoch cs fs n (line ∷ more) =
    if is_end line.words then ended [] line.number (behind_first line.words) more
    else then_item line.number (item_said epoch cs fs line.words) (sequence_said epoch cs fs (line.number + 1) more)

-- how many bytes the first line of a payload shows: a command's, or all where there is none
abbrev pub item_size : List Field → ℕ → List ℕ → ℕ
item_size fs size bytes = if is_command_at fs size bytes then size + packet_size (drop size bytes) else length bytes

-- the line of a command
abbrev pub command_line : List Command → List Field → ℕ → List ℕ → List ℕ
command_line cs fs size bytes =
    ((codes "command" ++ row_shown fs (take size bytes)) ++ 32 ∷ command_shown cs (packet_behind size bytes)) ++ 10 ∷ []

abbrev pub item_shown : List Command → List Field → ℕ → List ℕ → List ℕ
item_shown cs fs size bytes =
    if is_command_at fs size bytes then command_line cs fs size bytes else (codes "raw " ++ hex bytes) ++ 10 ∷ []

-- the lines of a payload, command by command, where `fuel` is at least its length
unfoldable pub sequence_shown : List Command → List Field → ℕ → ℕ → List ℕ → List ℕ
sequence_shown cs fs size zero bytes = codes "end" ++ 10 ∷ []
sequence_shown cs fs size (suc fuel) bytes =
    if length bytes == 0 then codes "end" ++ 10 ∷ []
    else item_shown cs fs size bytes ++ sequence_shown cs fs size fuel (drop (item_size fs size bytes) bytes)

-- the text of a payload
abbrev pub payload_shown : List Command → List Field → ℕ → List ℕ → List ℕ
payload_shown cs fs size bytes = sequence_shown cs fs size (length bytes) bytes

-- the payload that lines say by a form
abbrev pub said_by : SequenceForm → ℕ → List Numbered → Result (List ℕ) TextFault
said_by form n lines = sequence_said form.epoch form.commands.now form.fields.now n lines
