use Rattle.std.proofs.Common.{◌≡◌, false, length}
use Rattle.lc_watch.proofs.Halves.{Half}
use Rattle.lc_watch.proofs.Showing.{IsAnyBit, IsShown}
use Rattle.lc_watch.proofs.duty.Duty.active_bits.Given as goal

-- each bit so far tells whether its actionpoint is active
abbrev pub invariant-loop-place : goal.invariant-loop-place
invariant-loop-place l = record {
  long : length l.bits ≡ 16;
  half : Half IsAnyBit (IsShown l.self.points) 16 l.place false l.bits;
}
