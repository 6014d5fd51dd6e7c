-- Turns: in each, of all sequences' next commands that are due, the first by time, then absolute before relative, then lower number leaves.
use Rattle.std.specs.Prelude.{ℕ, zero, suc, ◌+◌, ◌==◌, min, nat_le, Bool, false, ◌||◌, not, if◌then◌else◌, List, [], ◌∷◌, ◌++◌, map, slice_set, position, option_map, Option, Some, None}
use Rattle.packet_forms.specs.Packets.{is_checksum_right}
use Rattle.bus_pipes.specs.declared.names.Out.{Out}
use Rattle.sc_tables.specs.Commands.{TimedCommand}
use Rattle.sc_sequences.specs.Sequences.{Sequence, at_place, is_relative, going_on, head_time}
use Rattle.sc_sequences.specs.Answers.{head_items}
use Rattle.sc_sequences.specs.declared.cursors.Due.{Due}

-- The earlier of two times that there may be, and the earliest of several.
abbrev pub earlier : Option ℕ → Option ℕ → Option ℕ
earlier None u = u
earlier (Some t) None = Some t
earlier (Some t) (Some u) = Some (min t u)

unfoldable pub earliest : List (Option ℕ) → Option ℕ
earliest [] = None
earliest (t ∷ times) = earlier t (earliest times)

abbrev pub is_at : ℕ → Option ℕ → Bool
is_at time None = false
is_at time (Some t) = t == time

-- The earliest with the first place that has it: absolute sequences stand before relative ones, and these by their numbers.
abbrev pub in_place : ℕ → ℕ → Due
in_place time place = record { time = time; place = place }

abbrev pub first_with : List (Option ℕ) → Option ℕ → Option Due
first_with times None = None
first_with times (Some time) = option_map (in_place time) (position (is_at time) times)

unfoldable pub soonest : List (Option ℕ) → Option Due
soonest times = first_with times (earliest times)

-- The place of the command that leaves next, where one is due.
abbrev pub place_due : ℕ → Option Due → Option ℕ
place_due now None = None
place_due now (Some due) = if nat_le due.time now then Some due.place else None

unfoldable pub next_place : ℕ → List Sequence → Option ℕ
next_place now all = place_due now (soonest (map head_time all))

-- All sequences, and how many commands were sent and had a wrong checksum so far.
pub record Sequences : Type 0 where
  pub all : List Sequence
  pub sent : ℕ
  pub wrong : ℕ

-- What a part of a wakeup does: the sequences after it, and what was sent.
pub record Done : Type 0 where
  pub after : Sequences
  pub items : List Out

abbrev pub nothing : Sequences → Done
nothing s = record { after = s; items = [] }

abbrev pub and_then : Done → (Sequences → Done) → Done
and_then done next = record { after = (next done.after).after; items = done.items ++ (next done.after).items }

-- What is left behind a command that leaves: a wrong checksum stops a relative sequence.
abbrev pub left_behind : ℕ → Bool → List TimedCommand → List TimedCommand
left_behind place right rest = if right || not (is_relative place) then rest else []

-- The first of these commands leaves, which are left of the sequence in a place.
abbrev pub leaving : ℕ → Sequences → ℕ → List TimedCommand → Done
leaving now s place [] = nothing s
leaving now s place (c ∷ rest) = record {
  after = record {
    all = slice_set s.all place (going_on place now (left_behind place (is_checksum_right c.packet) rest) (at_place s.all place));
    sent = if is_checksum_right c.packet then s.sent + 1 else s.sent;
    wrong = if is_checksum_right c.packet then s.wrong else s.wrong + 1;
  };
  items = head_items place now (is_checksum_right c.packet) c.packet (left_behind place (is_checksum_right c.packet) rest);
}

-- A turn, and so many turns.
abbrev pub turn_of : ℕ → Sequences → Option ℕ → Done
turn_of now s None = nothing s
turn_of now s (Some place) = leaving now s place (at_place s.all place).left

unfoldable pub turn : ℕ → Sequences → Done
turn now s = turn_of now s (next_place now s.all)

unfoldable pub turns : ℕ → ℕ → Sequences → Done
turns zero now s = nothing s
turns (suc n) now s = and_then (turns n now s) (turn now)
