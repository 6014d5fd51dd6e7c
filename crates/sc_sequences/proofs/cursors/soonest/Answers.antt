use Rattle.std.proofs.Common.{◌≡◌, ◌*◌, sym, ap, ◌∙◌, arith}
use Rattle.sc_sequences.specs.Cursors.{due_of, lowest_from}
use Rattle.sc_sequences.proofs.Keys.{lowest_none, group_more, due_is_soonest}
use Rattle.sc_sequences.proofs.cursors.soonest.Goals as goal

pub loop-group-init : goal.loop-group-init
loop-group-init c = λ times are. sym (lowest_none times 0)

pub loop-group-preserved : goal.loop-group-preserved
loop-group-preserved c = λ times are.
    c.min-first.ensures ∙ group_more times c.args.lowest.now c.loop-group.group c.loop-group.first _ (omega arith) are (c.loop-group.invariant times are)

pub returns : goal.returns
returns c = λ times whole small are.
    c.due_of.ensures
    ∙ ap due_of (c.loop-group.invariant times are ∙ ap (lowest_from times 0) (let all : 6 * c.loop-group.group ≡ 66 = omega arith in all))
    ∙ due_is_soonest times whole small
