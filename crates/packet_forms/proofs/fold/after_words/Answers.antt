use Rattle.std.proofs.Common.{◌≡◌, ◌<◌, ◌-◌, ◌*◌, ◌/◌, ℕ, length, take, get_or, ap, sym, ◌∙◌, arith}
use Rattle.std.specs.Prelude.{bit_xor}
use Rattle.packet_forms.specs.Crc.{crc_of}
use Rattle.packet_forms.specs.Folds.{word_in, folded_word, words_check, words_left}
use Rattle.std.proofs.lemmas.List.Elements.{All-from_get_or}
use Rattle.packet_forms.proofs.Folding.{left_begins, sums_begin, crc_words, word_in_crc}
use Rattle.packet_forms.proofs.fold.after_words.Goals as goal

pub fold_front-taken-requires-clause-zeros : goal.fold_front-taken-requires-clause-zeros
fold_front-taken-requires-clause-zeros c k far = c.sums_of-sums.ensures.zeros k (omega (arith, far))

pub returns : goal.returns
unfolding words_left
returns c =
    let bytes = c.args.bytes.now in
    let words : ℕ = length bytes / 2 in
    let size : 2 * words ≡ words * 2 = omega arith in
    let sums = c.fold_front-taken.new.sums in
    let first : ℕ = (words - 15) / 8 * 8 in
    let left : ℕ = words_check (folded_word bytes sums) first (words - first) in
    ap (λ (k : ℕ). bit_xor k c.odd_part.result) c.after_last.ensures
    ∙ ap (bit_xor left) c.odd_part.ensures
    ∙ c.fold_front-taken.ensures
    ∙ left_begins bytes c.sums_of-sums.result
    ∙ sums_begin (word_in bytes) (λ (k : ℕ). get_or c.sums_of-sums.result k 0) c.args.start words (omega (arith, c.requires.many)) c.sums_of-sums.ensures.first c.sums_of-sums.ensures.zeros
    ∙ sym (crc_words (word_in bytes) bytes c.args.start 0 words (λ k j h. word_in_crc bytes k j (omega (arith, h)) (All-from_get_or (λ (b : ℕ). b < 256) bytes 0 (λ i within. (c.type_inv.bytes i).fits))))
    ∙ ap (λ (n : ℕ). crc_of c.args.start (take n bytes)) size
