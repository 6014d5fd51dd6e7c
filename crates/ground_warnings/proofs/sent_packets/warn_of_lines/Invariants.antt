use Rattle.std.proofs.Common.{◌+◌, ◌<◌, ◌^◌, length}
use Rattle.ground_warnings.proofs.sent_packets.warn_of_lines.Given as goal

abbrev pub invariant-lines : goal.invariant-lines
invariant-lines g l = l.next + length l.rest < 2 ^ 32

abbrev pub decreases-lines : goal.decreases-lines
decreases-lines g l = length l.rest
