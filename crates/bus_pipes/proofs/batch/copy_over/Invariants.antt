use Rattle.std.proofs.Common.{◌≡◌, ◌+◌, ◌++◌, length, take}
use Rattle.bus_pipes.proofs.batch.copy_over.Given as goal

-- the packets so far are written
abbrev pub invariant-packets : goal.invariant-packets
invariant-packets l = record {
  written : take (l.from + l.i) l.places ≡ take l.from l.fn.places ++ take l.i l.packets;
  size : length l.places ≡ length l.fn.places;
}
