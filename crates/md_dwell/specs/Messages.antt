-- MD's name, and the codes of its commands.
use Rattle.std.specs.Prelude.{ℕ, List, [], ◌∷◌, codes}
use Rattle.packet_forms.specs.Names.{name_of}
use Rattle.commands.specs.Rows.{code_row}
use Rattle.commands.specs.declared.verdicts.CodeRow.{CodeRow}

-- MD's name.
unfoldable pub md_name : List ℕ
md_name = name_of (codes "MD")

-- The codes, each with the shortest and the longest payload: no-op, reset counters, start, stop, jam.
unfoldable pub md_codes : List CodeRow
md_codes = code_row 0 0 0 ∷ code_row 1 0 0 ∷ code_row 2 2 2 ∷ code_row 3 2 2 ∷ code_row 4 12 12 ∷ []
