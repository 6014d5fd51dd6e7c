-- MM's name, and the codes of its commands.
use Rattle.std.specs.Prelude.{ℕ, List, [], ◌∷◌, codes}
use Rattle.packet_forms.specs.Names.{name_of}
use Rattle.commands.specs.Rows.{code_row}
use Rattle.commands.specs.declared.verdicts.CodeRow.{CodeRow}

-- MM's name.
unfoldable pub mm_name : List ℕ
mm_name = name_of (codes "MM")

-- The codes, each with the shortest and the longest payload: no-op, reset counters, peek, poke, load, load of a file, fill, EEPROM
-- enable and disable, and dump.
unfoldable pub mm_codes : List CodeRow
mm_codes =
    code_row 0 0 0 ∷ code_row 1 0 0 ∷ code_row 2 5 5 ∷ code_row 3 9 9 ∷ code_row 4 7 206 ∷ code_row 5 2 2 ∷ code_row 8 9 9 ∷ code_row 11 1 1 ∷ code_row 12 1 1
    ∷ code_row 13 8 8 ∷ []
