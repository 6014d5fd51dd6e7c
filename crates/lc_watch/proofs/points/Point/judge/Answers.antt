use Rattle.lc_watch.proofs.Rows.{passes_stands, passes_fires, few_stands, few_fires, all_stands, all_fires}
use Rattle.lc_watch.proofs.points.Point.judge.Goals as goal

pub returns-then-not-fails-clause-stands : goal.returns-then-not-fails-clause-stands
returns-then-not-fails-clause-stands c = λ start evaluations settings stood.
    rw (c.in-Some.is, c.if-not-fails.true) (passes_stands start c.args.failures evaluations settings c.args.self stood (c.requires c.in-Some.fails c.in-Some.is))

pub returns-then-not-fails-clause-fires : goal.returns-then-not-fails-clause-fires
returns-then-not-fails-clause-fires c = λ start evaluations settings stood.
    rw (c.in-Some.is, c.if-not-fails.true) (passes_fires start c.args.failures evaluations settings c.args.self stood (c.requires c.in-Some.fails c.in-Some.is))

pub returns-then-self-failures-clause-stands : goal.returns-then-self-failures-clause-stands
returns-then-self-failures-clause-stands c = λ start evaluations settings stood.
    rw (c.in-Some.is, c.if-not-fails.false) (few_stands start c.args.failures evaluations settings c.args.self stood c.if-self-failures.true)

pub returns-then-self-failures-clause-fires : goal.returns-then-self-failures-clause-fires
returns-then-self-failures-clause-fires c = λ start evaluations settings stood.
    rw (c.in-Some.is, c.if-not-fails.false) (few_fires start c.args.failures evaluations settings c.args.self stood c.if-self-failures.true)

pub returns-clause-stands : goal.returns-clause-stands
returns-clause-stands c = λ start evaluations settings stood.
    rw (c.in-Some.is, c.if-not-fails.false) (all_stands start c.args.failures evaluations settings c.args.self stood c.if-self-failures.false (c.requires c.in-Some.fails c.in-Some.is))

pub returns-clause-fires : goal.returns-clause-fires
returns-clause-fires c = λ start evaluations settings stood.
    rw (c.in-Some.is, c.if-not-fails.false) (all_fires start c.args.failures evaluations settings c.args.self stood c.if-self-failures.false (c.requires c.in-Some.fails c.in-Some.is))
