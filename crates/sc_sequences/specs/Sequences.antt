-- Sequences: which commands are left of each, and when its next command comes.
use Rattle.std.specs.Prelude.{ℕ, ◌+◌, ◌-◌, nat_le, Bool, true, false, ◌&&◌, if◌then◌else◌, List, [], ◌∷◌, filter, map, slice_index_or, slice_set, Option, Some, None}
use Rattle.packet_forms.specs.Packets.{shortest_packet}
use Rattle.sc_tables.specs.Commands.{TimedCommand}

-- A sequence: the commands that are loaded, those that are left, the time that the tag of the next one counts from, and whether it may be
-- started. It runs where commands are left.
pub record Sequence : Type 0 where
  pub loaded : List TimedCommand
  pub left : List TimedCommand
  pub base : ℕ
  pub enabled : Bool

-- The command with a number, from 0.
abbrev pub command_in : List TimedCommand → ℕ → TimedCommand
command_in commands at = slice_index_or commands at (record { tag = 0; packet = shortest_packet })

abbrev pub has_some : List TimedCommand → Bool
has_some [] = false
has_some (c ∷ commands) = true

abbrev pub is_running : Sequence → Bool
is_running s = has_some s.left

abbrev pub is_loaded : Sequence → Bool
is_loaded s = has_some s.loaded

-- A sequence that waits for its start.
abbrev pub waiting : List TimedCommand → Sequence
waiting commands = record { loaded = commands; left = []; base = 0; enabled = false }

-- The sequence in a place, and with it changed.
abbrev pub at_place : List Sequence → ℕ → Sequence
at_place all place = slice_index_or all place (waiting [])

abbrev pub with_at : ℕ → (Sequence → Sequence) → List Sequence → List Sequence
with_at place change all = slice_set all place (change (at_place all place))

-- The places of absolute sequence n, 1 or 2, and of relative sequence n, 1 to 64; none where there is no such sequence.
abbrev pub ats_place : ℕ → Option ℕ
ats_place n = if nat_le 1 n && nat_le n 2 then Some (n - 1) else None

abbrev pub rts_place : ℕ → Option ℕ
rts_place n = if nat_le 1 n && nat_le n 64 then Some (n + 1) else None

abbrev pub is_relative : ℕ → Bool
is_relative place = nat_le 2 place

-- Tags of absolute sequences are times, those of relative ones count from when the sequence was started or its last command left.
abbrev pub base_at : ℕ → ℕ → ℕ
base_at place now = if is_relative place then now else 0

-- A sequence that goes on with these commands at the time `now`.
abbrev pub going_on : ℕ → ℕ → List TimedCommand → Sequence → Sequence
going_on place now commands s = record s { left = commands; base = base_at place now }

abbrev pub stopped : Sequence → Sequence
stopped s = record s { left = [] }

-- The commands with a tag of `time` or more.
unfoldable pub from_time : ℕ → List TimedCommand → List TimedCommand
from_time time commands = filter (λ c. nat_le time c.tag) commands

-- What a sequence is started with: an absolute one without the commands before now, a relative one with all.
abbrev pub started_with : ℕ → ℕ → List TimedCommand → List TimedCommand
started_with place now commands = if is_relative place then commands else from_time now commands

abbrev pub started_at : ℕ → ℕ → List Sequence → List Sequence
started_at place now all = with_at place (λ s. going_on place now (started_with place now s.loaded) s) all

-- The place of the absolute sequence that runs, and of the other one.
abbrev pub running_ats : List Sequence → Option ℕ
running_ats all = if is_running (at_place all 0) then Some 0 else if is_running (at_place all 1) then Some 1 else None

abbrev pub other_ats : ℕ → ℕ
other_ats place = 1 - place

-- The time of the next command, where one is left.
abbrev pub first_time : ℕ → List TimedCommand → Option ℕ
first_time base [] = None
first_time base (c ∷ commands) = Some (base + c.tag)

abbrev pub head_time : Sequence → Option ℕ
head_time s = first_time s.base s.left

-- The commands that are loaded in each place.
abbrev pub tables_of : List Sequence → List (List TimedCommand)
tables_of all = map (λ s. s.loaded) all
