use Rattle.std.proofs.Common.{◌≡◌, ◌+◌, List, false, sym, ap, ◌∙◌, arith, Some}
use Rattle.std.proofs.lemmas.List.{take_all}
use Rattle.lc_watch.specs.Expressions.{values_left}
use Rattle.lc_watch.specs.declared.expressions.Word.{Word}
use Rattle.lc_watch.proofs.Leaving.{count_of, left_none, counted_more, counted_none, one_counts}
use Rattle.lc_watch.proofs.expressions.leaves_one.Goals as goal

pub loop-word-init : goal.loop-word-init
loop-word-init c = record { few = omega arith; counted = λ value. ap count_of (left_none value) }

pub loop-word-preserved : goal.loop-word-preserved
loop-word-preserved c = record {
  few = let few = c.in-Some.ensures.few in omega (arith, few);
  counted = λ value.
      counted_more value c.args.words.now c.loop-word.word-index c.loop-word.count c.count_after.result c.loop-word-test.true (c.count_after.ensures.values value) (c.loop-word.invariant.counted value)
      ∙ c.in-Some.is;
}

pub returns-in_default : goal.returns-in_default
returns-in_default c =
    counted_none (λ place. false) c.args.words.now (c.loop-word.word-index + 1)
    (counted_more (λ place. false) c.args.words.now c.loop-word.word-index c.loop-word.count c.count_after.result c.loop-word-test.true (c.count_after.ensures.values (λ place. false)) (c.loop-word.invariant.counted (λ place. false))
    ∙ c.in_default.is)

pub returns : goal.returns
returns c =
    let whole : count_of (values_left (λ place. false) c.args.words.now) ≡ Some c.loop-word.count =
    sym (ap (λ (words : List Word). count_of (values_left (λ place. false) words)) (take_all c.loop-word.word-index c.args.words.now c.loop-word-test.false)) ∙ c.loop-word.invariant.counted (λ place. false) in
    one_counts (values_left (λ place. false) c.args.words.now) c.loop-word.count whole
