use Rattle.std.proofs.Common.{take}
use Rattle.lc_watch.specs.Newest.{AreNoted}
use Rattle.lc_watch.proofs.newest.places_of.Given as goal

-- the packets so far are noted
abbrev pub invariant-loop-place : goal.invariant-loop-place
invariant-loop-place l = AreNoted (take l.place l.packets) l.places
