-- The commands of all sequences: absolute ones 1 and 2 have the places 0 and 1, relative ones 1 to 64 the places 2 to 65.
use Rattle.std.specs.Prelude.{◌≡◌, ℕ, ◌<◌, ◌≤◌, List, [], length, slice_index_or}
use Rattle.std.specs.List.Sorted.{IsNonDecreasingBy}
use Rattle.packet_forms.specs.Packets.{shortest_packet}
use Rattle.sc_tables.specs.declared.absolute.Timed.{Timed}
use Rattle.sc_tables.specs.declared.relative.Relative.{Relative}

-- A command with its time, or with the seconds that pass before it leaves.
pub record TimedCommand : Type 0 where
  pub tag : ℕ
  pub packet : List ℕ

abbrev pub of_timed : Timed → TimedCommand
of_timed c = record { tag = c.tag; packet = c.packet }

abbrev pub of_relative : Relative → TimedCommand
of_relative c = record { tag = c.tag; packet = c.packet }

-- The commands of the sequence in a place; none where it isn't named.
abbrev pub commands_in : List (List TimedCommand) → ℕ → List TimedCommand
commands_in tables place = slice_index_or tables place []

-- Command k of the sequence in a place.
abbrev pub command_at : List (List TimedCommand) → ℕ → ℕ → TimedCommand
command_at tables place k = slice_index_or (commands_in tables place) k (record { tag = 0; packet = shortest_packet })

-- What is true of the commands of tables: there are 66 sequences of at most 1,000 commands, and those of an absolute one are in order of time.
pub record AreTables (tables : List (List TimedCommand)) : Type 0 where
  pub whole : length tables ≡ 66
  pub few : (place : ℕ) → length (commands_in tables place) ≤ 1000
  pub in_order : (place : ℕ) → place < 2 → IsNonDecreasingBy (λ (c : TimedCommand). c.tag) (commands_in tables place)
