use Rattle.std.proofs.Common.{◌≡◌, ◌+◌, ◌*◌, ◌-◌, ℕ, take, drop, ap, ◌∙◌, arith, get_or}
use Rattle.std.specs.Int.{w16, from_le_bytes}
use Rattle.std.specs.Prelude.{bit_xor}
use Rattle.packet_forms.specs.Folds.{word_in, with_sums}
use Rattle.packet_forms.proofs.fold.word_at.Goals as goal

pub returns : goal.returns
unfolding word_in with_sums
returns c =
    let size : 2 * c.args.i + 2 - 2 * c.args.i ≡ 2 = omega arith in
    let same : c.le_word.result ≡ word_in c.args.bytes.now c.args.i = c.le_word.ensures ∙ ap (λ (n : ℕ). from_le_bytes w16 (take n (drop (2 * c.args.i) c.args.bytes.now))) size in
    ap (λ (n : ℕ). bit_xor n (bit_xor (get_or c.args.sums.now (c.args.i + 1) 0) (get_or c.args.sums.now c.args.i 0))) same
