use Rattle.std.proofs.Common.{◌≡◌, ◌-◌, ◌*◌, ◌/◌, length}
use Rattle.std.specs.Prelude.{bit_xor}
use Rattle.packet_forms.specs.Crc.{after_zeros}
use Rattle.packet_forms.specs.Folds.{folded_word, words_check}
use Rattle.packet_forms.proofs.fold.after_last.Given as goal

-- the words so far are in the check
abbrev pub invariant-loop-i : goal.invariant-loop-i
invariant-loop-i l =
    bit_xor (after_zeros (16 * (length l.bytes / 2 - l.i)) l.crc) (words_check (folded_word l.bytes l.sums) l.i (length l.bytes / 2 - l.i))
    ≡ words_check (folded_word l.bytes l.sums) ((length l.bytes / 2 - 15) / 8 * 8) (length l.bytes / 2 - (length l.bytes / 2 - 15) / 8 * 8)
