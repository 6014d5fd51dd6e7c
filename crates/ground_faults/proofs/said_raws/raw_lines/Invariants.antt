use Rattle.std.proofs.Common.{◌+◌, ◌<◌, ◌^◌, length}
use Rattle.ground_faults.proofs.said_raws.raw_lines.Given as goal

abbrev pub invariant-lines : goal.invariant-lines
invariant-lines l = l.next + length l.rest < 2 ^ 32

abbrev pub decreases-lines : goal.decreases-lines
decreases-lines l = length l.rest
