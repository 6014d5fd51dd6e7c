-- The codes of Health and Safety's commands. Its name stands with its actions.
use Rattle.std.specs.Prelude.{List, [], ◌∷◌}
use Rattle.commands.specs.Rows.{code_row}
use Rattle.commands.specs.declared.verdicts.CodeRow.{CodeRow}

-- The codes, each with the length of its payload: no-op, reset counters, application monitoring on and off, event monitoring on and off, set the resets made to 0, set the maximum of resets.
unfoldable pub hs_codes : List CodeRow
hs_codes = code_row 0 0 0 ∷ code_row 1 0 0 ∷ code_row 2 0 0 ∷ code_row 3 0 0 ∷ code_row 4 0 0 ∷ code_row 5 0 0 ∷ code_row 8 0 0 ∷ code_row 9 2 2 ∷ []
