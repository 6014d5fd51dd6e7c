-- Stored Command's name, the codes of its commands, and its events that no command gives.
use Rattle.std.specs.Prelude.{ℕ, List, [], ◌∷◌, codes}
use Rattle.packet_forms.specs.Names.{name_of}
use Rattle.commands.specs.Rows.{code_row}
use Rattle.commands.specs.declared.verdicts.CodeRow.{CodeRow}
use Rattle.sc_sequences.specs.declared.messages.Event.{Event}
use Rattle.sc_sequences.specs.declared.messages.Event.TheVariants.{WrongInAts, WrongInRts, AtsEnded, RtsEnded}

-- Stored Command's name.
unfoldable pub sc_name : List ℕ
sc_name = name_of (codes "SC")

-- The codes, each with the length of its payload: no-op, reset counters, start and stop an absolute sequence, start, stop, disable and
-- enable a relative one, switch and jump in the absolute one.
unfoldable pub sc_codes : List CodeRow
sc_codes =
    code_row 0 0 0 ∷ code_row 1 0 0 ∷ code_row 2 2 2 ∷ code_row 3 0 0 ∷ code_row 4 2 2 ∷ code_row 5 2 2 ∷ code_row 6 2 2 ∷ code_row 7 2 2
    ∷ code_row 8 0 0 ∷ code_row 9 4 4 ∷ []

-- The events of a wrong checksum in an absolute and in a relative sequence, and of the ends of both.
abbrev pub wrong_in_ats : ℕ
wrong_in_ats = 101

abbrev pub wrong_in_rts : ℕ
wrong_in_rts = 102

abbrev pub ats_ended : ℕ
ats_ended = 103

abbrev pub rts_ended : ℕ
rts_ended = 104

-- The number of an event, and its type: 2 information, 3 an error.
abbrev pub event_number : Event → ℕ
event_number WrongInAts = wrong_in_ats
event_number WrongInRts = wrong_in_rts
event_number AtsEnded = ats_ended
event_number RtsEnded = rts_ended

abbrev pub event_kind : Event → ℕ
event_kind WrongInAts = 3
event_kind WrongInRts = 3
event_kind AtsEnded = 2
event_kind RtsEnded = 2
