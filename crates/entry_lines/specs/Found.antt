-- The lines of a table's text in which its entries stand.
use Rattle.std.specs.Prelude.{ℕ, ◌-◌, ◌==◌, if◌then◌else◌, List, [], ◌∷◌, codes, Option, Some, None}
use Rattle.row_forms.specs.Words.{words}
use Rattle.table_files.specs.declared.kinds.TableKind.{TableKind}
use Rattle.table_files.specs.declared.kinds.TableKind.TheVariants.{AppMon, EventMon, ExeCount, MsgActs, Ats, Rts, Dwell, Eeprom, Memory, Wdt, Adt}
use Rattle.table_texts.specs.declared.lines.Line.{Line}
use Rattle.table_texts.specs.Lines.{Numbered}
use Rattle.entry_lines.specs.declared.words.Sought.{Sought}
use Rattle.entry_lines.specs.declared.words.Sought.TheVariants.{Entry}
use Rattle.entry_lines.specs.Words.{is_first, says}

-- the first of lines whose words say what is looked for
unfoldable pub line_saying : Sought → List Numbered → Option Numbered
line_saying sought [] = None
line_saying sought (line ∷ more) = if says sought line.words then Some line else line_saying sought more

-- the line of a command by its place, from 1: so many commands stand in the first lines. There is none where a line of bytes, which may
-- hold several commands, stands before it
unfoldable pub line_of_command : ℕ → List Numbered → Option Numbered
line_of_command place [] = None
line_of_command place (line ∷ more) =
    if is_first (codes "command") line.words then (if place == 1 then Some line else line_of_command (place - 1) more) else None

-- the lines behind the first one, which is `table NAME`
abbrev pub behind_title : List Numbered → List Numbered
behind_title [] = []
behind_title (line ∷ more) = more

abbrev pub first_of : List Numbered → Option Numbered
first_of [] = None
first_of (line ∷ more) = Some line

-- entry 0 of a dwell table is its head, which stands in front of the entries
abbrev pub head_or_entry : ℕ → List Numbered → Option Numbered
head_or_entry entry lines = if entry == 0 then first_of lines else line_saying (Entry entry) lines

-- the line of an entry among those behind the first one
abbrev pub line_behind : TableKind → ℕ → List Numbered → Option Numbered
line_behind AppMon entry lines = line_saying (Entry entry) lines
line_behind EventMon entry lines = line_saying (Entry entry) lines
line_behind ExeCount entry lines = line_saying (Entry entry) lines
line_behind MsgActs entry lines = line_saying (Entry entry) lines
line_behind (Ats n) entry lines = line_of_command entry lines
line_behind (Rts n) entry lines = line_of_command entry lines
line_behind (Dwell n) entry lines = head_or_entry entry lines
line_behind Eeprom entry lines = line_saying (Entry entry) lines
line_behind Memory entry lines = line_saying (Entry entry) lines
line_behind Wdt entry lines = line_saying (Entry entry) lines
line_behind Adt entry lines = line_saying (Entry entry) lines

-- the line of a table's text that says an entry: by its number, and of a sequence by its place among the commands
unfoldable pub line_of_entry : TableKind → ℕ → List Numbered → Option Numbered
line_of_entry kind entry lines = line_behind kind entry (behind_title lines)

-- ---- what the code gives

-- a line by its number and its words
abbrev pub seen : Line → Numbered
seen line = record { number = line.number; words = words line.bytes.now }
