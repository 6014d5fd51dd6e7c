use Rattle.std.proofs.Common.{◌∙◌, arith}
use Rattle.row_forms.proofs.BlockLemmas.{hex_more, hex_bad, hex_ends, odd_none, gives_onto, gives_none, onto_none}
use Rattle.row_forms.proofs.values.read_block.Goals as goal

pub returns-then-text-ne0 : goal.returns-then-text-ne0
returns-then-text-ne0 c = gives_none _ _ _ (odd_none c.args.text.now c.if-text-ne0.true)

pub returns-in_default : goal.returns-in_default
returns-in_default c =
    gives_none _ _ _ (onto_none _ c.args.out.now.items (c.loop-i.invariant ∙ hex_bad c.args.text.now c.loop-i.out.items c.loop-i.i (omega arith) c.in_default.ensures))

pub loop-i-preserved : goal.loop-i-preserved
loop-i-preserved c =
    let pair = c.in-Some.ensures in
    rw (c.in_ok-push.ensures.items, pair.1) (c.loop-i.invariant ∙ hex_more c.args.text.now c.loop-i.out.items c.loop-i.i (omega arith) pair.0)

pub returns : goal.returns
returns c = gives_onto _ c.args.out.now.items c.loop-i.out.items (c.loop-i.invariant ∙ hex_ends c.args.text.now c.loop-i.out.items c.loop-i.i (omega arith))
