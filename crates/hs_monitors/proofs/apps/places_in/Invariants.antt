use Rattle.std.proofs.Common.{◌≡◌, take}
use Rattle.hs_monitors.specs.Monitors.{places_of}
use Rattle.hs_monitors.proofs.apps.places_in.Given as goal

-- the places up to the last used entry among those so far
abbrev pub invariant-loop-place : goal.invariant-loop-place
invariant-loop-place l = l.places ≡ places_of (take l.place l.apps)
