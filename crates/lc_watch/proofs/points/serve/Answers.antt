use Rattle.std.proofs.Common.{◌++◌, Bool, option_to_list, Option, sym, ap, subst, ◌∙◌, arith}
use Rattle.bus_pipes.proofs.Deliveries.{adding_none}
use Rattle.lc_watch.specs.Failing.{fires_by, by_firing, IsCalm, PointStands}
use Rattle.lc_watch.proofs.Both.{off_by_not, on_by_not}
use Rattle.lc_watch.proofs.Evaluating.{evaluated_used}
use Rattle.lc_watch.proofs.points.serve.Goals as goal

pub judge-judged-requires : goal.judge-judged-requires
judge-judged-requires c = λ fails is. (c.requires.able (evaluated_used _ c.args.row.now fails (sym c.evaluation.ensures ∙ is))).failures

pub returns-then-not-judged-clause-stands : goal.returns-then-not-judged-clause-stands
returns-then-not-judged-clause-stands c = λ start evaluations settings stood.
    let n = c.args.row.now.failures in
    subst (λ (o : Option Bool). PointStands start n (evaluations ++ option_to_list o) (settings ++ by_firing (fires_by start n evaluations settings o)) c.judge-judged.result.point) c.evaluation.ensures
    (c.judge-judged.ensures.stands start evaluations settings stood)

pub returns-then-not-judged-clause-items : goal.returns-then-not-judged-clause-items
returns-then-not-judged-clause-items c = λ start evaluations settings stood.
    let n = c.args.row.now.failures in
    let fires = c.judge-judged.ensures.fires start evaluations settings stood ∙ ap (fires_by start n evaluations settings) c.evaluation.ensures in
    rw (sym fires, off_by_not c.judge-judged.result.fires c.if-not-judged.true) (sym (adding_none c.args.out.now))

pub returns-then-not-judged-clause-fired : goal.returns-then-not-judged-clause-fired
returns-then-not-judged-clause-fired c = λ start evaluations settings count stood counted.
    let n = c.args.row.now.failures in
    let fires = c.judge-judged.ensures.fires start evaluations settings stood ∙ ap (fires_by start n evaluations settings) c.evaluation.ensures in
    rw (sym fires, off_by_not c.judge-judged.result.fires c.if-not-judged.true) (omega (arith, counted))

pub returns-clause-stands : goal.returns-clause-stands
returns-clause-stands c = λ start evaluations settings stood.
    let n = c.args.row.now.failures in
    subst (λ (o : Option Bool). PointStands start n (evaluations ++ option_to_list o) (settings ++ by_firing (fires_by start n evaluations settings o)) c.judge-judged.result.point) c.evaluation.ensures
    (c.judge-judged.ensures.stands start evaluations settings stood)

pub returns-clause-items : goal.returns-clause-items
returns-clause-items c = λ start evaluations settings stood.
    let n = c.args.row.now.failures in
    let fires = c.judge-judged.ensures.fires start evaluations settings stood ∙ ap (fires_by start n evaluations settings) c.evaluation.ensures in
    rw (sym fires, on_by_not c.judge-judged.result.fires c.if-not-judged.false)
    c.put_firing.ensures.items

pub returns-clause-fired : goal.returns-clause-fired
returns-clause-fired c = λ start evaluations settings count stood counted.
    let n = c.args.row.now.failures in
    let fires = c.judge-judged.ensures.fires start evaluations settings stood ∙ ap (fires_by start n evaluations settings) c.evaluation.ensures in
    rw (sym fires, on_by_not c.judge-judged.result.fires c.if-not-judged.false) (omega (arith, counted))

pub returns-then-not-judged-clause-calm : goal.returns-then-not-judged-clause-calm
returns-then-not-judged-clause-calm c = λ all. subst (λ (o : Option Bool). IsCalm o c.args.row.now.failures c.judge-judged.result.point) c.evaluation.ensures (c.judge-judged.ensures.calm all)

pub returns-clause-calm : goal.returns-clause-calm
returns-clause-calm c = λ all. subst (λ (o : Option Bool). IsCalm o c.args.row.now.failures c.judge-judged.result.point) c.evaluation.ensures (c.judge-judged.ensures.calm all)
