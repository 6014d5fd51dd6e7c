-- When a log stands for the packets that were stamped.
use Rattle.std.specs.Prelude.{◌≡◌, ◌<◌, ◌≤◌, ℕ, List, length, slice_index, Some}
use Rattle.packet_log.specs.declared.block.TheConstants.{BLOCK_BYTES, BLOCK_ENDS}
use Rattle.packet_log.specs.Counts.{count_place, count_of}

-- each count is below 16,384
pub record AreSmall (counts : List ℕ) : Type 0 where
  pub small : (k : ℕ) → slice_index counts k < 16384

-- the counts, by the places of their ids, are those of the packets that were stamped
pub record Stands (made : List (List ℕ)) (counts : List ℕ) : Type 0 where
  pub whole : length counts ≡ 14
  pub each : (id k : ℕ) → count_place id ≡ Some k → slice_index counts k ≡ count_of made id

-- what a block holds is within what was reserved for it, and the sink took no more than there is
pub record IsRoomy (size capacity taken ends ends_capacity : ℕ) : Type 0 where
  pub within : taken ≤ size
  pub full : size ≤ BLOCK_BYTES
  pub room : BLOCK_BYTES ≤ capacity
  pub few : ends ≤ BLOCK_ENDS
  pub ends_room : BLOCK_ENDS ≤ ends_capacity
