use Rattle.std.proofs.Common.{◌≡◌, ◌+◌, ◌-◌, ◌*◌, ◌/◌, ℕ, length, refl, ap, ◌∙◌, arith}
use Rattle.packet_forms.specs.Folds.{words_left}
use Rattle.packet_forms.specs.Packets.{checksum_of}
use Rattle.packet_forms.proofs.Folding.{none_taken, all_reduced}
use Rattle.packet_forms.proofs.fold.fold_front.Goals as goal

pub loop-k-init : goal.loop-k-init
loop-k-init c = record { check = ap (λ (n : ℕ). words_left c.args.bytes.now c.args.sums.now n 0) none_taken; zeros = c.requires.zeros; sums = c.told-sums; lanes = refl }

pub loop-k-preserved : goal.loop-k-preserved
loop-k-preserved c =
    let now = c.fold_eight-taken.ensures in
    let next : 8 * (c.loop-k.k + 1) ≡ 8 * c.loop-k.k + 8 = omega arith in
    record {
      check = ap (words_left c.args.bytes.now c.fold_eight-taken.new.sums (checksum_of c.fold_eight-taken.result)) next ∙ now.check ∙ c.loop-k.invariant.check;
      zeros = λ k far. now.zeros k (omega (arith, far));
      sums = now.sums;
      lanes = now.lanes;
    }

pub returns : goal.returns
unfolding checksum_of
returns c =
    let last : (length c.args.bytes.now / 2 - 15) / 8 * 8 ≡ 8 * c.loop-k.k = omega (arith, c.loop-k-test.false) in
    ap (λ (n : ℕ). words_left c.args.bytes.now c.loop-k.sums n ((length c.args.bytes.now / 2 - 15) / 8 * 8)) (all_reduced 0 c.loop-k.taken)
    ∙ ap (words_left c.args.bytes.now c.loop-k.sums (checksum_of c.loop-k.taken)) last
    ∙ c.loop-k.invariant.check
