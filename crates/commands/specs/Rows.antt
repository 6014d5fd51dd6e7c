-- The function codes of an application.
use Rattle.std.specs.Prelude.{ℕ, Bool, false, ◌==◌, ◌&&◌, List, [], ◌∷◌, length, map, nat_le, find, Option, Some, None}
use Rattle.commands.specs.declared.verdicts.CodeRow.{CodeRow}

-- A code with the shortest and the longest payload of its commands.
abbrev pub code_row : ℕ → ℕ → ℕ → CodeRow
code_row code least most = record { 0 = code; 1 = least; 2 = most }

-- A table of codes as numbers: of each code itself, and its shortest and longest payload.
abbrev pub numbers_of_rows : List CodeRow → List (List ℕ)
numbers_of_rows rows = map (λ row. row.0 ∷ row.1 ∷ row.2 ∷ []) rows

-- The row of a function code in an application's table of codes.
abbrev pub row_of : List CodeRow → ℕ → Option CodeRow
row_of rows code = find (λ row. row.0 == code) rows

-- Whether a payload is as long as the row of its code says.
abbrev pub is_length_allowed : CodeRow → List ℕ → Bool
is_length_allowed row payload = nat_le row.1 (length payload) && nat_le (length payload) row.2

-- Whether a code is listed and allows a payload of this length.
abbrev pub is_allowed : Option CodeRow → List ℕ → Bool
is_allowed None payload = false
is_allowed (Some row) payload = is_length_allowed row payload
