-- CS's name, the codes of its commands, and its event that no command gives.
use Rattle.std.specs.Prelude.{ℕ, List, [], ◌∷◌, codes}
use Rattle.packet_forms.specs.Names.{name_of}
use Rattle.commands.specs.Rows.{code_row}
use Rattle.commands.specs.declared.verdicts.CodeRow.{CodeRow}
use Rattle.cs_slices.specs.declared.messages.Event.{Event}
use Rattle.cs_slices.specs.declared.messages.Event.TheVariants.{Miscompare}

-- CS's name.
unfoldable pub cs_name : List ℕ
cs_name = name_of (codes "CS")

-- The event of a miscompare.
abbrev pub miscompare_event : ℕ
miscompare_event = 101

-- The number of an event, and its type: 3 an error.
abbrev pub event_number : Event → ℕ
event_number Miscompare = miscompare_event

abbrev pub event_kind : Event → ℕ
event_kind Miscompare = 3

-- The codes, each with the length of its payload: no-op, reset counters, CS on and off, table on and off, entry on and off, report the baseline.
unfoldable pub cs_codes : List CodeRow
cs_codes = code_row 0 0 0 ∷ code_row 1 0 0 ∷ code_row 2 0 0 ∷ code_row 3 0 0 ∷ code_row 4 2 2 ∷ code_row 5 2 2 ∷ code_row 6 4 4 ∷ code_row 7 4 4 ∷ code_row 8 4 4 ∷ []
