-- What a command of a sequence gives that leaves.
use Rattle.std.specs.Prelude.{ℕ, Bool, if◌then◌else◌, List, [], ◌∷◌}
use Rattle.packet_forms.specs.Built.{event_of}
use Rattle.bus_pipes.specs.declared.names.Out.{Out}
use Rattle.bus_pipes.specs.declared.names.Out.TheVariants.{Made, Stored}
use Rattle.sc_tables.specs.Commands.{TimedCommand}
use Rattle.sc_sequences.specs.Messages.{sc_name, event_number, event_kind}
use Rattle.sc_sequences.specs.Sequences.{is_relative}
use Rattle.sc_sequences.specs.declared.messages.Event.{Event}
use Rattle.sc_sequences.specs.declared.messages.Event.TheVariants.{WrongInAts, WrongInRts, AtsEnded, RtsEnded}

-- An event at the time `now`.
abbrev pub sc_event : Event → ℕ → Out
sc_event event now = Made (event_of sc_name (event_number event) (event_kind event) now)

-- The event of a sequence that ends: no command is left.
abbrev pub ending_items : ℕ → ℕ → List TimedCommand → List Out
ending_items place now [] = sc_event (if is_relative place then RtsEnded else AtsEnded) now ∷ []
ending_items place now (c ∷ left) = []

-- What a command gives that leaves: where its checksum is right its packet, else an event; and then the end of its sequence, which isn't told
-- where a wrong checksum stops a relative one.
unfoldable pub head_items : ℕ → ℕ → Bool → List ℕ → List TimedCommand → List Out
head_items place now right packet left =
    if right then Stored packet ∷ ending_items place now left
    else if is_relative place then sc_event WrongInRts now ∷ []
    else sc_event WrongInAts now ∷ ending_items place now left
