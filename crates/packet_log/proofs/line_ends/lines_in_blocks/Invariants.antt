use Rattle.std.proofs.Common.{◌≡◌, ◌≤◌, ◌*◌, take}
use Rattle.fsw_outside.specs.Tally.{line_ends}
use Rattle.packet_log.proofs.line_ends.lines_in_blocks.Given as goal

-- the blocks so far
abbrev pub invariant-loop-k : goal.invariant-loop-k
invariant-loop-k l = record {
  value : l.count ≡ line_ends (take (32 * l.k) l.bytes);
  few : l.count ≤ 32 * l.k;
}
