use Rattle.std.proofs.Common.{◌≡◌, ◌≤◌, ◌+◌, ◌*◌, ℕ, length, get_or}
use Rattle.packet_forms.specs.Folds.{words_left}
use Rattle.packet_forms.specs.Packets.{checksum_of}
use Rattle.packet_forms.proofs.fold.fold_front.Given as goal

-- the words so far are taken away, and the sums of the others are 0
abbrev pub invariant-loop-k : goal.invariant-loop-k
invariant-loop-k l = record {
  check : words_left l.bytes l.sums (checksum_of l.taken) (8 * l.k) ≡ words_left l.bytes l.fn.sums 0 0;
  zeros : (k : ℕ) → 8 * l.k + 15 ≤ k → get_or l.sums k 0 ≡ 0;
  sums : length l.sums ≡ 527;
  lanes : length l.taken ≡ 8;
}
