use Rattle.std.proofs.Common.{◌≡◌, ◌+◌, ◌-◌, ◌*◌, ◌/◌, ℕ, suc, length, ap, sym, ◌∙◌, arith}
use Rattle.std.specs.Prelude.{bit_xor}
use Rattle.packet_forms.specs.Crc.{after_zeros}
use Rattle.packet_forms.specs.Folds.{folded_word, words_check}
use Rattle.packet_forms.proofs.Folding.{check_begins, check_step, check_none}
use Rattle.packet_forms.proofs.fold.after_last.Goals as goal

pub loop-i-init : goal.loop-i-init
loop-i-init c =
    let f : ℕ → ℕ = folded_word c.args.bytes.now c.args.sums.now in
    let words : ℕ = length c.args.bytes.now / 2 in
    let first : ℕ = (words - 15) / 8 * 8 in
    check_begins f first (words - first)

pub loop-i-preserved : goal.loop-i-preserved
loop-i-preserved c =
    let f : ℕ → ℕ = folded_word c.args.bytes.now c.args.sums.now in
    let words : ℕ = length c.args.bytes.now / 2 in
    let left : suc (words - (c.loop-i.i + 1)) ≡ words - c.loop-i.i = omega (arith, c.loop-i-test.true) in
    let next : c.loop-i.i + 1 ≡ suc c.loop-i.i = omega arith in
    ap (λ (i : ℕ). bit_xor (after_zeros (16 * (words - (c.loop-i.i + 1))) c.after_word-crc.result) (words_check f i (words - (c.loop-i.i + 1)))) next
    ∙ sym (check_step f c.loop-i.crc c.after_word-crc.result c.loop-i.i (words - (c.loop-i.i + 1)) (c.after_word-crc.ensures ∙ ap (λ (n : ℕ). after_zeros 16 (bit_xor c.loop-i.crc n)) c.word_at.ensures))
    ∙ ap (λ (n : ℕ). bit_xor (after_zeros (16 * n) c.loop-i.crc) (words_check f c.loop-i.i n)) left
    ∙ c.loop-i.invariant

pub returns : goal.returns
returns c =
    let f : ℕ → ℕ = folded_word c.args.bytes.now c.args.sums.now in
    let none : 0 ≡ length c.args.bytes.now / 2 - c.loop-i.i = omega (arith, c.loop-i-test.false) in
    sym (check_none f c.loop-i.crc c.loop-i.i) ∙ ap (λ (n : ℕ). bit_xor (after_zeros (16 * n) c.loop-i.crc) (words_check f c.loop-i.i n)) none ∙ c.loop-i.invariant
