-- Sequence counts.
use Rattle.std.specs.Prelude.{ℕ, ◌%◌, ◌==◌, List, Option, position}
use Rattle.packet_forms.specs.Packets.{message_id}
use Rattle.packet_forms.specs.Built.{with_sequence}
use Rattle.bus_pipes.specs.Pipes.{count_of_id}
use Rattle.bus_pipes.specs.Counted.{counted_ids}

-- the place of an id in the table of counts
unfoldable pub count_place : ℕ → Option ℕ
count_place id = position (λ counted. counted == id) counted_ids

-- how many of these packets have an id, modulo 16,384
unfoldable pub count_of : List (List ℕ) → ℕ → ℕ
count_of made id = count_of_id id made % 16384

-- a packet with its sequence count, behind the packets that were made before
unfoldable pub stamped : List (List ℕ) → List ℕ → List ℕ
stamped made p = with_sequence (count_of made (message_id p)) p
