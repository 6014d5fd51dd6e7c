-- The lines of a table's text at which its warnings are told.
use Rattle.std.specs.Prelude.{ℕ, List, [], ◌∷◌, Option, Some, None}
use Rattle.table_texts.specs.Lines.{Numbered}
use Rattle.table_warnings.specs.declared.warning.Place.{Place}
use Rattle.table_warnings.specs.declared.warning.Place.TheVariants as places
use Rattle.table_warnings.specs.declared.warning.Warning.{Warning}
use Rattle.table_warnings.specs.declared.warning.Warning.TheVariants.{Gap, Unread, NoDelay, StartsItself, WrongChecksum, BehindEnd, Crowded, Unwatched, Unknown, Split}
use Rattle.entry_lines.specs.declared.words.Sought.TheVariants.{Entry, Behind, Command}
use Rattle.entry_lines.specs.Found.{line_saying, line_of_command}

-- a line, or another one where there is none
abbrev pub or_line : Option Numbered → Option Numbered → Option Numbered
or_line (Some line) other = Some line
or_line None other = other

-- the line of an entry, or, of one that the text leaves out, the first line behind it that says an entry: there the list goes on
abbrev pub line_from : ℕ → List Numbered → Option Numbered
line_from entry lines = or_line (line_saying (Entry entry) lines) (line_saying (Behind entry) lines)

-- the line of a command: by its place, or in an absolute sequence by its number
abbrev pub line_of_place : Place → List Numbered → Option Numbered
line_of_place (places.Entry entry) lines = line_of_command entry lines
line_of_place (places.Number number) lines = line_saying (Command number) lines

-- the line of what is odd, among those behind the first one
abbrev pub line_of_odd : Warning → List Numbered → Option Numbered
line_of_odd (Gap entry) lines = line_from entry lines
line_of_odd (Unread entry) lines = line_from entry lines
line_of_odd NoDelay lines = None
line_of_odd (StartsItself entry) lines = line_of_command entry lines
line_of_odd (WrongChecksum place) lines = line_of_place place lines
line_of_odd (BehindEnd place) lines = line_of_place place lines
line_of_odd (Crowded place) lines = line_of_place place lines
line_of_odd (Unwatched entry id) lines = line_from entry lines
line_of_odd (Unknown entry name) lines = line_from entry lines
line_of_odd (Split entry) lines = line_from entry lines

-- the line at which a warning is told: that of what is odd, and where this isn't known, or is the whole table, the first line, `table NAME`
unfoldable pub line_of_warning : Warning → List Numbered → Option Numbered
line_of_warning warning [] = None
line_of_warning warning (title ∷ more) = or_line (line_of_odd warning more) (Some title)
