use Rattle.std.proofs.Common.{◌∙◌, sym, ℕ, ◌/◌}
use Rattle.std.specs.Prelude.{bit_xor}
use Rattle.packet_forms.proofs.Folding.{odd_half, odd_one}
use Rattle.packet_forms.proofs.fold.odd_part.Goals as goal

pub returns : goal.returns
returns c =
    let halved : ℕ → ℕ → ℕ = λ w size. bit_xor w (w / size) in
    let eight : ℕ = halved c.args.word 256 in
    let four : ℕ = halved eight 16 in
    let two : ℕ = halved four 4 in
    c.odd_bit.ensures ∙ sym (odd_half 8 c.args.word ∙ odd_half 4 eight ∙ odd_half 2 four ∙ odd_half 1 two ∙ odd_one (halved two 2))
