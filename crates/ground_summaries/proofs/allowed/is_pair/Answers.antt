use Rattle.ground_summaries.proofs.PairLemmas.{pair_is, pair_other, pair_unparted}
use Rattle.ground_summaries.proofs.allowed.is_pair.Goals as goal

pub returns : goal.returns
returns c =
    pair_is c.args.text.now c.args.first.now c.args.second.now c.as_bytes-text.result.now c.as_bytes-first.result.now c.as_bytes.result.now c.front.result.now c.behind.result.now c.eq.result
    c.as_bytes-text.ensures.value c.as_bytes-first.ensures.value c.as_bytes.ensures.value c.if-text-end.false c.front.ensures c.if-ne.ensures c.if-text-end-ne32.false c.behind.ensures c.eq.ensures

pub returns-then-ne : goal.returns-then-ne
returns-then-ne c =
    pair_other c.args.text.now c.args.first.now c.args.second.now c.as_bytes-text.result.now c.as_bytes-first.result.now c.front.result.now
    c.as_bytes-text.ensures.value c.as_bytes-first.ensures.value c.if-text-end.false c.front.ensures c.if-ne.ensures

pub returns-then-text-end-ne32 : goal.returns-then-text-end-ne32
returns-then-text-end-ne32 c =
    pair_unparted c.args.text.now c.args.first.now c.args.second.now c.as_bytes-text.result.now c.as_bytes-first.result.now c.front.result.now
    c.as_bytes-text.ensures.value c.as_bytes-first.ensures.value c.if-text-end.false c.front.ensures c.if-ne.ensures c.if-text-end-ne32.true
