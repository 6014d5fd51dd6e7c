use Rattle.std.proofs.Common.{◌≡◌, ◌+◌, ◌-◌, ◌*◌, ◌/◌, ◌∙◌, ℕ, List, Some, length, take, sym, ap, arith}
use Rattle.std.proofs.lemmas.List.{take_all}
use Rattle.scenario.specs.Words.{hex}
use Rattle.scenario.proofs.LaneLemmas.{hex_nil, parts_joined, parts_none, parts_front}
use Rattle.scenario.proofs.words.long_hex.Goals as goal

-- the pairs before the next eight
eights : (word places : List ℕ) (k : ℕ) → hex (take (16 * k) word) ≡ Some (take (8 * k) places) → hex (take (2 * (8 * k)) word) ≡ Some (take (8 * k) places)
eights word places k read = let same : 2 * (8 * k) ≡ 16 * k = omega arith in ap (λ (n : ℕ). hex (take n word)) same ∙ read

pub eights-init : goal.eights-init
eights-init c = record { size = omega arith; read = hex_nil }

pub eights-preserved : goal.eights-preserved
eights-preserved c =
    let word = c.args.word.now in
    let k = c.eights.k in
    let now = c.place_pairs.new.places in
    let far : 16 * (k + 1) ≡ 2 * (8 * k) + 16 = omega arith in
    let size : 8 * k + 8 ≡ 8 * (k + 1) = omega arith in
    record {
      size = c.place_pairs.array_long;
      read =
          ap (λ (n : ℕ). hex (take n word)) far
          ∙ parts_joined word c.eights.places now (8 * k) (eights word c.eights.places k c.eights.invariant.read) c.if-not-place_pairs.ensures.read c.place_pairs.ensures.kept
          ∙ ap (λ (n : ℕ). Some (take n now)) size;
    }

pub returns-then-not-place_pairs-clause-bytes : goal.returns-then-not-place_pairs-clause-bytes
returns-then-not-place_pairs-clause-bytes c =
    let word = c.args.word.now in
    let k = c.eights.k in
    sym (parts_none word (take (8 * k) c.eights.places) (8 * k) (omega arith) (eights word c.eights.places k c.eights.invariant.read) c.if-not-place_pairs.ensures.read)

pub returns-then-not-place_pairs-2-clause-bytes : goal.returns-then-not-place_pairs-2-clause-bytes
returns-then-not-place_pairs-2-clause-bytes c =
    let word = c.args.word.now in
    let k = c.eights.k in
    let m : ℕ = length word / 2 - 8 in
    sym (parts_none word (take m c.eights.places) m (omega arith) (parts_front word c.eights.places m (8 * k) (omega arith) (eights word c.eights.places k c.eights.invariant.read)) c.if-not-place_pairs-2.ensures.read)

pub returns-clause-bytes : goal.returns-clause-bytes
returns-clause-bytes c =
    let word = c.args.word.now in
    let k = c.eights.k in
    let now = c.place_pairs-2.new.places in
    let m : ℕ = length word / 2 - 8 in
    let size : length word / 2 ≡ m + 8 = omega arith in
    ap (λ (n : ℕ). Some (take n now)) size
    ∙ sym (parts_joined word c.eights.places now m (parts_front word c.eights.places m (8 * k) (omega arith) (eights word c.eights.places k c.eights.invariant.read)) c.if-not-place_pairs-2.ensures.read c.place_pairs-2.ensures.kept)
    ∙ ap hex (take_all (2 * m + 16) word (omega arith))
