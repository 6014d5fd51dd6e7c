-- Where the newest packets of a list are, by their message ids.
use Rattle.std.specs.Prelude.{◌≡◌, ◌≤◌, ◌<◌, ℕ, suc, ◌%◌, ◌==◌, Bool, if◌then◌else◌, List, length, drop, slice_index_or}
use Rattle.std.specs.List.{list_any}
use Rattle.histories.specs.Words.{last_place}
use Rattle.packet_forms.specs.Packets.{message_id}
use Rattle.lc_watch.specs.declared.newest.Newest.{Newest}

-- Whether the message id of a packet has this slot: its lowest six bits.
abbrev pub has_slot : ℕ → List ℕ → Bool
has_slot slot p = message_id p % 64 == slot

-- How many packets stand up to the newest whose id has this slot, that one counted: 0 where no packet's id has it.
unfoldable pub up_to_newest : ℕ → List (List ℕ) → ℕ
up_to_newest slot packets = if list_any (has_slot slot) packets then suc (last_place (has_slot slot) packets) else 0

-- A place for each of the 64 slots: how many of these packets stand up to the newest in it.
pub record AreNoted (packets : List (List ℕ)) (places : List ℕ) : Type 0 where
  pub long : length places ≡ 64
  pub each : (slot : ℕ) → slot < 64 → slice_index_or places slot 0 ≡ up_to_newest slot packets

-- Of these packets those behind the first ones are noted.
pub record IsNewest (packets : List (List ℕ)) (newest : Newest) : Type 0 where
  pub within : newest.before ≤ length packets
  pub noted : AreNoted (drop newest.before packets) newest.places
