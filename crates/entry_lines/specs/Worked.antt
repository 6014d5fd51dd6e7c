-- Texts of tables, written by hand, and the numbers of the lines that say their entries.
use Rattle.std.specs.Prelude.{ℕ, List, take, drop, ◌-◌, ◌*◌, codes, Option, option_map}
use Rattle.table_texts.specs.declared.layout.Layout.{Layout}
use Rattle.table_texts.specs.Lines.{Numbered}

-- a dwell table behind a comment and an empty line, with a comment and an empty line in it, and without an LF at its end
unfoldable pub dwell_text : List ℕ
dwell_text = codes "# one\n\ntable MD.DWELL_TABLE1\nhead enabled=1\n\n1 length=2\nraw 3 00\n# 4\n0x5 length=1\nend"

-- a sequence with a line of bytes
unfoldable pub sequence_text : List ℕ
sequence_text = codes "table SC.ATS_TBL1\ncommand number=7 time=5\n\ncommand number=0x2 time=4\nraw 00\ncommand number=9 time=6\nend\n"

abbrev pub number_of : Option Numbered → Option ℕ
number_of line = option_map (λ (l : Numbered). l.number) line

-- the bytes of an entry, from 1, among those of all
abbrev pub bytes_of_entry : Layout → ℕ → List ℕ → List ℕ
bytes_of_entry l entry bytes = take l.size (drop ((entry - 1) * l.size) bytes)
