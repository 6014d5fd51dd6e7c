use Rattle.std.proofs.Common.{arith}
use Rattle.hs_monitors.proofs.Renewing.{renewing_none, renewing_all}
use Rattle.hs_monitors.proofs.kept.renew_all.Goals as goal

pub loop-counter-init : goal.loop-counter-init
loop-counter-init c = record {
  some = omega arith;
  renewing = λ checks stood. renewing_none c.args.apps.now checks c.args.counters.now c.args.passed c.args.least c.args.heads.now c.args.watched.now stood c.requires;
}

pub loop-counter-preserved : goal.loop-counter-preserved
loop-counter-preserved c = record {
  some = c.renew_named-fewest.ensures.some;
  renewing = λ checks stood.
      c.renew_named-fewest.ensures.renewing checks c.loop-counter.counter-index c.args.least c.args.watched.now stood c.requires
      (record { within = c.loop-counter-test.true; here = c.counter-item.is }) (c.loop-counter.invariant.renewing checks stood);
}

pub returns : goal.returns
returns c = λ checks stood.
    renewing_all c.args.apps.now checks c.args.counters.now c.args.passed c.args.least c.args.heads.now c.args.watched.now stood c.requires c.loop-counter.counter-index c.loop-counter.watched c.loop-counter.fewest c.loop-counter-test.false
    (c.loop-counter.invariant.renewing checks stood)
