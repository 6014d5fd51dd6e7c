use Rattle.std.proofs.Common.{◌≡◌, ◌-◌, ◌<◌, ◌^◌, length, drop}
use Rattle.histories.specs.Masks.{bits_of}
use Rattle.histories.proofs.bits.bits_of.Given as goal

-- the bits from the last on
abbrev pub invariant-loop-done : goal.invariant-loop-done
invariant-loop-done l = record {
  mask : l.mask ≡ bits_of (drop (length l.bits - l.done) l.bits);
  small : l.mask < 2 ^ l.done;
}
