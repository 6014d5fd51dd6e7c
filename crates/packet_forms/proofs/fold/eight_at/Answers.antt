use Rattle.std.proofs.Common.{◌≡◌, ◌+◌, ◌<◌, ◌^◌, ℕ, length, get_or, ap, sym, ◌∙◌, arith}
use Rattle.std.specs.Prelude.{bit_xor}
use Rattle.std.specs.Simd.Lanes.{zip2}
use Rattle.std.proofs.lemmas.Simd.{length-zip2, get_or-zip2}
use Rattle.packet_forms.specs.Folds.{word_in, with_sums}
use Rattle.std.proofs.lemmas.Nat.{xor_lt}
use Rattle.packet_forms.proofs.Folding.{word_small}
use Rattle.packet_forms.proofs.fold.eight_at.Goals as goal

pub returns-clause-each : goal.returns-clause-each
unfolding with_sums
returns-clause-each c k low =
    let words = c.words_at.result in
    let near = c.sums_at.result in
    let far = c.sums_at-2.result in
    let both = zip2 bit_xor near far in
    let here = c.words_at.ensures.lanes in
    let first = c.sums_at.ensures.lanes in
    let second = c.sums_at-2.ensures.lanes in
    let joined : length both ≡ 8 = length-zip2 bit_xor near far (first ∙ sym second) ∙ first in
    let place : c.args.from + 1 + k ≡ c.args.from + k + 1 = omega arith in
    get_or-zip2 bit_xor words both k 0 0 0 (omega (arith, here, low)) (omega (arith, joined, low))
    ∙ ap (λ (n : ℕ). bit_xor n (get_or both k 0)) (c.words_at.ensures.each k low)
    ∙ ap (bit_xor _) (
    get_or-zip2 bit_xor near far k 0 0 0 (omega (arith, first, low)) (omega (arith, second, low))
    ∙ ap (λ (n : ℕ). bit_xor n (get_or far k 0)) (c.sums_at.ensures.each k low ∙ ap (λ (n : ℕ). get_or c.args.sums.now n 0) place)
    ∙ ap (bit_xor _) (c.sums_at-2.ensures.each k low))

pub returns-clause-small : goal.returns-clause-small
unfolding with_sums
returns-clause-small c k low =
    let is = returns-clause-each c k low in
    let i : ℕ = c.args.from + k in
    let sums = c.args.sums.now in
    let both : bit_xor (get_or sums (i + 1) 0) (get_or sums i 0) < 2 ^ 16 = xor_lt 16 (get_or sums (i + 1) 0) (get_or sums i 0) (c.fits-sums (i + 1)) (c.fits-sums i) in
    let word : word_in c.args.bytes.now i < 2 ^ 16 = word_small c.args.bytes.now i (omega (arith, c.requires.within, low)) (λ j. (c.type_inv.bytes j).fits) in
    let all : bit_xor (word_in c.args.bytes.now i) (bit_xor (get_or sums (i + 1) 0) (get_or sums i 0)) < 2 ^ 16 = xor_lt 16 (word_in c.args.bytes.now i) (bit_xor (get_or sums (i + 1) 0) (get_or sums i 0)) word both in
    omega (arith, is, all)

pub returns-clause-lanes : goal.returns-clause-lanes
returns-clause-lanes c =
    let near = c.sums_at.result in
    let far = c.sums_at-2.result in
    let first = c.sums_at.ensures.lanes in
    let joined : length (zip2 bit_xor near far) ≡ 8 = length-zip2 bit_xor near far (first ∙ sym c.sums_at-2.ensures.lanes) ∙ first in
    length-zip2 bit_xor c.words_at.result (zip2 bit_xor near far) (c.words_at.ensures.lanes ∙ sym joined) ∙ c.words_at.ensures.lanes
