use Rattle.std.proofs.Common.{◌≡◌, ◌/◌, ◌%◌, ◌<◌, ℕ, refl, length, take, arith, ◌∙◌, sym, ap, Some}
use Rattle.std.proofs.lemmas.List.{length-set, take_more_set}
use Rattle.scenario.proofs.WordsLemmas.{hex_ends, hex_odd, read_more}
use Rattle.scenario.proofs.words.short_hex.Goals as goal

pub pairs-preserved : goal.pairs-preserved
pairs-preserved c =
    let i = c.pairs.i in
    let byte : ℕ = c.pair_value-value.result % 256 in
    let long : i < length c.pairs.places = omega (arith, c.pairs.invariant.length) in
    let more = read_more c.args.word.now (take i c.pairs.places) i c.pairs.bits c.pair_value-value.result byte (omega arith) c.pair_value-value.ensures.good c.pair_value-value.ensures.bad refl c.pairs.invariant.read in
    record {
      length = length-set c.pairs.places i byte ∙ c.pairs.invariant.length;
      read = rw (take_more_set c.pairs.places i byte long) more;
    }

pub returns-then-bits-ge256-clause-bytes : goal.returns-then-bits-ge256-clause-bytes
returns-then-bits-ge256-clause-bytes c = sym (c.pairs.invariant.read.bad c.if-bits-ge256.true)

pub returns-then-word-eq0-clause-bytes : goal.returns-then-word-eq0-clause-bytes
returns-then-word-eq0-clause-bytes c =
    let half : c.pairs.i ≡ length c.args.word.now / 2 = omega arith in
    ap (λ (n : ℕ). Some (take n c.pairs.places)) (sym half)
    ∙ sym (c.pairs.invariant.read.good c.if-bits-ge256.false ∙ hex_ends c.args.word.now (take c.pairs.i c.pairs.places) c.pairs.i (omega arith))

pub returns-else-word-eq0-clause-bytes : goal.returns-else-word-eq0-clause-bytes
returns-else-word-eq0-clause-bytes c =
    sym (c.pairs.invariant.read.good c.if-bits-ge256.false ∙ hex_odd c.args.word.now (take c.pairs.i c.pairs.places) c.pairs.i (omega arith))
