-- The text of a table's entries.
use Rattle.std.specs.Prelude.{ℕ, zero, suc, ◌+◌, ◌-◌, ◌==◌, Bool, ◌&&◌, if◌then◌else◌, List, [], ◌∷◌, ◌++◌, take, drop, codes, decimal}
use Rattle.std.specs.List.{list_all}
use Rattle.packet_forms.specs.Hex.{hex}
use Rattle.row_forms.specs.Rows.{row_shown, is_row}
use Rattle.telecommands.specs.declared.command.Command.{Command}
use Rattle.telecommands.specs.Commands.{command_shown}
use Rattle.table_texts.specs.declared.layout.Layout.{Layout}
use Rattle.table_texts.specs.Fronts.{packet_size, packet_behind, is_command_at}

-- whether words say an entry: its row, or its fields and a telecommand with zero bytes behind it
unfoldable pub can_show : Layout → List ℕ → Bool
can_show l entry =
    if l.area == 0 then is_row l.fields.now entry
    else is_command_at l.fields.now (l.size - l.area) entry
    && list_all (λ b. b == 0) (drop (l.size - l.area + packet_size (drop (l.size - l.area) entry)) entry)

-- the words of an entry, each with a space in front
unfoldable pub values_shown : List Command → Layout → List ℕ → List ℕ
values_shown cs l entry =
    if l.area == 0 then row_shown l.fields.now entry
    else row_shown l.fields.now (take (l.size - l.area) entry) ++ 32 ∷ command_shown cs (packet_behind (l.size - l.area) entry)

-- the line of an entry: its values, or all its bytes where no words say them
abbrev pub entry_line : List Command → Layout → ℕ → List ℕ → List ℕ
entry_line cs l k entry =
    if can_show l entry then (decimal k ++ values_shown cs l entry) ++ 10 ∷ []
    else (codes "raw " ++ decimal k ++ 32 ∷ hex entry) ++ 10 ∷ []

-- an entry of zero bytes has no line
abbrev pub entry_shown : List Command → Layout → ℕ → List ℕ → List ℕ
entry_shown cs l k entry = if list_all (λ b. b == 0) entry then [] else entry_line cs l k entry

-- the lines of so many entries, the first being entry k, and `end`
unfoldable pub entries_shown : List Command → Layout → ℕ → ℕ → List ℕ → List ℕ
entries_shown cs l zero k bytes = codes "end" ++ 10 ∷ []
entries_shown cs l (suc m) k bytes = entry_shown cs l k (take l.size bytes) ++ entries_shown cs l m (k + 1) (drop l.size bytes)
