use Rattle.std.proofs.Common.{◌≡◌, ◌+◌, ◌<◌, ◌^◌, ℕ, List, length, get_or, ap, sym, ◌∙◌, arith}
use Rattle.std.specs.Prelude.{bit_xor}
use Rattle.std.specs.List.{All, fold}
use Rattle.std.specs.Simd.Lanes.{zip2, put_chunk}
use Rattle.std.proofs.lemmas.List.Elements.{All-from_get_or}
use Rattle.std.proofs.lemmas.Simd.{length-zip2, length-put_chunk, get_or-put_chunk_above}
use Rattle.packet_forms.specs.Folds.{words_left}
use Rattle.packet_forms.specs.Packets.{checksum_of}
use Rattle.packet_forms.proofs.Folding.{left_steps, all_zipped}
use Rattle.packet_forms.proofs.fold.fold_eight.Goals as goal

pub returns-clause-check : goal.returns-clause-check
returns-clause-check c =
    let here = c.eight_at-here.result in
    let lanes = c.eight_at-here.ensures.lanes in
    let bytes = c.args.bytes.now in
    let sums = c.args.sums.now in
    let next : c.args.from + 8 ≡ c.args.from + length here = omega (arith, lanes) in
    let small : All (λ r. r < 2 ^ 16) here = All-from_get_or (λ (r : ℕ). r < 2 ^ 16) here 0 (λ i within. c.eight_at-here.ensures.small i (omega (arith, within, lanes))) in
    ap (λ (xs : List ℕ). words_left bytes xs (checksum_of (zip2 bit_xor c.args.taken here)) (c.args.from + 8)) c.put_eight.ensures
    ∙ ap (λ (n : ℕ). words_left bytes (put_chunk (c.args.from + 15) sums here) n (c.args.from + 8)) (all_zipped c.args.taken here (c.requires.lanes ∙ sym lanes))
    ∙ ap (words_left bytes (put_chunk (c.args.from + 15) sums here) (fold bit_xor (checksum_of c.args.taken) here)) next
    ∙ left_steps bytes sums (checksum_of c.args.taken) c.args.from here (omega (arith, lanes)) (omega (arith, lanes, c.requires.within)) (omega (arith, lanes, c.told-sums, c.requires.within, c.requires.short)) small
    (λ k inside. c.eight_at-here.ensures.each k (omega (arith, inside, lanes))) c.requires.zeros

pub returns-clause-zeros : goal.returns-clause-zeros
returns-clause-zeros c k far =
    let lanes = c.eight_at-here.ensures.lanes in
    ap (λ (xs : List ℕ). get_or xs k 0) c.put_eight.ensures ∙ get_or-put_chunk_above (c.args.from + 15) c.args.sums.now c.eight_at-here.result k 0 (omega (arith, far, lanes)) ∙ c.requires.zeros k (omega (arith, far))

pub returns-clause-sums : goal.returns-clause-sums
returns-clause-sums c = ap length c.put_eight.ensures ∙ length-put_chunk (c.args.from + 15) c.args.sums.now c.eight_at-here.result ∙ c.told-sums

pub returns-clause-lanes : goal.returns-clause-lanes
returns-clause-lanes c = length-zip2 bit_xor c.args.taken c.eight_at-here.result (c.requires.lanes ∙ sym c.eight_at-here.ensures.lanes) ∙ c.requires.lanes
