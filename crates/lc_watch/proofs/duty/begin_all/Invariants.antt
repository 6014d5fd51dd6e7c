use Rattle.std.proofs.Common.{◌≡◌, length, false}
use Rattle.lc_watch.proofs.Halves.{Half}
use Rattle.lc_watch.proofs.Serving.{IsAny, IsBegun}
use Rattle.lc_watch.proofs.duty.begin_all.Given as goal

-- what is kept so far stands for no wakeup
abbrev pub invariant-loop-place : goal.invariant-loop-place
invariant-loop-place l = record {
  long : length l.points ≡ 16;
  half : Half IsAny (IsBegun l.actions) 16 l.place (record { active = false; failing = 0 }) l.points;
}
