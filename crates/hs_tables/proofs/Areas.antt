-- The packet that begins an entry's area.
use Rattle.std.proofs.Common.{◌≡◌, ℕ, ◌+◌, ◌<◌, ◌≤◌, List, take, Some, None, refl}
use Rattle.std.proofs.lemmas.Bool.{le-leb, lt-leb}
use Rattle.packet_forms.specs.Numbers.{be16_at}
use Rattle.packet_forms.specs.Packets.{length_field}
use Rattle.packet_forms.specs.Faults.{fault_of}
use Rattle.packet_forms.specs.declared.packet.PacketFault.{PacketFault}
use Rattle.hs_tables.specs.Actions.{packet_in}

module _ (area : List ℕ) (field : ℕ) (is : field ≡ be16_at area 4) where
  -- it would be too long
  pub long_packet : 64 < field + 7 → None ≡ packet_in area
  unfolding packet_in length_field
  long_packet long = rw (← is, lt-leb (field + 7) 64 long) refl

  -- it is one
  pub whole_packet : field + 7 ≤ 64 → (packet : List ℕ) → packet ≡ take (field + 7) area → fault_of (take (field + 7) area) ≡ None → Some packet ≡ packet_in area
  unfolding packet_in length_field
  whole_packet short packet same none = rw (← is, le-leb (field + 7) 64 short, none, same) refl

  -- it has a fault
  pub faulty_packet : field + 7 ≤ 64 → (fault : PacketFault) → fault_of (take (field + 7) area) ≡ Some fault → None ≡ packet_in area
  unfolding packet_in length_field
  faulty_packet short fault some = rw (← is, le-leb (field + 7) 64 short, some) refl
