use Rattle.std.proofs.Common.{◌≡◌, ◌+◌, ◌*◌, ◌++◌, length, take, drop}
use Rattle.packet_forms.specs.Hex.{hex}
use Rattle.packet_forms.proofs.hex.place_eights.Given as goal

-- the digits of the bytes so far are written
abbrev pub invariant-loop-k : goal.invariant-loop-k
invariant-loop-k l = record {
  value : l.places ≡ take l.at l.fn.places ++ (hex (take (8 * l.k) l.bytes) ++ drop (l.at + 2 * (8 * l.k)) l.fn.places);
  size : length l.places ≡ length l.fn.places;
}
