use Rattle.std.proofs.Common.{◌≡◌, ◌+◌, ◌*◌, ◌++◌, length, take, drop}
use Rattle.packet_forms.specs.Hex.{hex}
use Rattle.packet_forms.proofs.hex.place_each.Given as goal

-- the digits of the bytes so far are written
abbrev pub invariant-loop-i : goal.invariant-loop-i
invariant-loop-i l = record {
  value : l.places ≡ take l.at l.fn.places ++ (hex (take l.i l.bytes) ++ drop (l.at + 2 * l.i) l.fn.places);
  size : length l.places ≡ length l.fn.places;
}
