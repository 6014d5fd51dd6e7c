-- What users say of the commands that leave.
use Rattle.std.specs.Prelude.{◌≡◌, ◌<◌, ◌≤◌, ◌⊎◌, ℕ, zero, suc, ◌+◌, if◌then◌else◌, List, [], ◌∷◌, ◌++◌, Option, Some, None}
use Rattle.packet_forms.specs.Packets.{is_checksum_right}
use Rattle.bus_pipes.specs.declared.names.Out.{Out}
use Rattle.bus_pipes.specs.declared.names.Out.TheVariants.{Made, Stored, Reset, Restart, Delete}
use Rattle.histories.specs.Entries.Entry.{Woken, Activated}
use Rattle.sc_tables.specs.Commands.{TimedCommand, commands_in}
use Rattle.sc_sequences.specs.Histories.{ScEntry}
use Rattle.sc_sequences.specs.Sequences.{Sequence, at_place, head_time}
use Rattle.sc_sequences.specs.Turns.{Sequences, next_place, turns}

-- A command that leaves: when it was due, the place of its sequence, and its packet.
pub record Departure : Type 0 where
  pub time : ℕ
  pub place : ℕ
  pub packet : List ℕ

abbrev pub departing : ℕ → ℕ → List TimedCommand → List Departure
departing place base [] = []
departing place base (c ∷ rest) = record { time = base + c.tag; place = place; packet = c.packet } ∷ []

abbrev pub departing_at : List Sequence → Option ℕ → List Departure
departing_at all None = []
departing_at all (Some place) = departing place (at_place all place).base (at_place all place).left

-- The commands that leave in so many turns, in order.
unfoldable pub departures : ℕ → ℕ → Sequences → List Departure
departures zero now s = []
departures (suc n) now s = departures n now s ++ departing_at (turns n now s).after.all (next_place now (turns n now s).after.all)

-- The packets of those whose checksum is right, and the stored packets among items.
abbrev pub right_packet : Departure → Option (List ℕ)
right_packet d = if is_checksum_right d.packet then Some d.packet else None

abbrev pub stored_in : Out → Option (List ℕ)
stored_in (Made p) = None
stored_in (Stored p) = Some p
stored_in Reset = None
stored_in (Restart name) = None
stored_in (Delete name) = None

-- A command that left came before each one that is now next in a place: by time, then by place.
abbrev pub IsBefore : Departure → ℕ → ℕ → Type 0
IsBefore d time place = (d.time < time) ⊎ ((d.time ≡ time) × (d.place ≤ place))

pub record LeavesNoneBefore (all : List Sequence) (d : Departure) : Type 0 where
  pub none : (place time : ℕ) → head_time (at_place all place) ≡ Some time → IsBefore d time place

-- Commands in order of time, none before `time`.
abbrev pub RiseFrom : ℕ → List TimedCommand → Type 0
RiseFrom time [] = Unit {0}
RiseFrom time (c ∷ commands) = (time ≤ c.tag) × RiseFrom c.tag commands

-- The commands of absolute sequences are in order of time, and their tags are times.
pub record AreTimed (all : List Sequence) : Type 0 where
  pub loaded : (place : ℕ) → place < 2 → RiseFrom 0 (at_place all place).loaded
  pub left : (place : ℕ) → place < 2 → RiseFrom 0 (at_place all place).left
  pub base : (place : ℕ) → place < 2 → (at_place all place).base ≡ 0

-- The next command of the sequence in a place comes first: it is due, and of all next commands none has an earlier time, nor an equal one in an
-- earlier place.
pub record ComesFirst (now : ℕ) (all : List Sequence) (place time : ℕ) : Type 0 where
  pub here : head_time (at_place all place) ≡ Some time
  pub due : time ≤ now
  pub first : (k t : ℕ) → head_time (at_place all k) ≡ Some t → (time < t) ⊎ ((time ≡ t) × (place ≤ k))

-- Tables whose absolute sequences are in order of time, as the loader of a table gives them; and a history whose activations are so.
pub record AreTablesTimed (tables : List (List TimedCommand)) : Type 0 where
  pub rise : (place : ℕ) → place < 2 → RiseFrom 0 (commands_in tables place)

abbrev pub IsEntryTimed : ScEntry → Type 0
IsEntryTimed (Woken input) = Unit {0}
IsEntryTimed (Activated a) = a.place < 2 → RiseFrom 0 a.commands

abbrev pub AreEntriesTimed : List ScEntry → Type 0
AreEntriesTimed [] = Unit {0}
AreEntriesTimed (entry ∷ history) = IsEntryTimed entry × AreEntriesTimed history
