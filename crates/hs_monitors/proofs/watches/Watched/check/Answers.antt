use Rattle.std.proofs.Common.{refl, arith}
use Rattle.hs_monitors.proofs.Checks.{rested_stands, rested_acts, changed_stands, changed_acts, unchanged_stands, unchanged_acts}
use Rattle.hs_monitors.proofs.watches.Watched.check.Goals as goal

pub returns-then-self-eq0-clause-stands : goal.returns-then-self-eq0-clause-stands
returns-then-self-eq0-clause-stands c = λ checks stood. rested_stands c.args.entry.now checks c.args.counters.now c.args.self stood c.requires c.if-self-eq0.true

pub returns-then-self-eq0-clause-acts : goal.returns-then-self-eq0-clause-acts
returns-then-self-eq0-clause-acts c = λ checks stood. rested_acts c.args.entry.now checks c.args.counters.now c.args.self stood c.requires c.if-self-eq0.true

pub returns-then-last-self-clause-stands : goal.returns-then-last-self-clause-stands
returns-then-last-self-clause-stands c = λ checks stood.
    changed_stands c.args.entry.now checks c.args.counters.now c.args.self stood c.requires (omega arith) c.unwrap_or-last.result c.counter_in.result c.counter_in.ensures c.unwrap_or-last.ensures c.if-last-self.true

pub returns-then-last-self-clause-acts : goal.returns-then-last-self-clause-acts
returns-then-last-self-clause-acts c = λ checks stood.
    changed_acts c.args.entry.now checks c.args.counters.now c.args.self stood c.requires (omega arith) c.unwrap_or-last.result c.counter_in.result c.counter_in.ensures c.unwrap_or-last.ensures c.if-last-self.true

pub returns-clause-stands : goal.returns-clause-stands
returns-clause-stands c = λ checks stood.
    unchanged_stands c.args.entry.now checks c.args.counters.now c.args.self stood c.requires (omega arith) c.unwrap_or-last.result c.counter_in.result c.counter_in.ensures c.unwrap_or-last.ensures c.if-last-self.false _ refl

pub returns-clause-acts : goal.returns-clause-acts
returns-clause-acts c = λ checks stood.
    unchanged_acts c.args.entry.now checks c.args.counters.now c.args.self stood c.requires (omega arith) c.unwrap_or-last.result c.counter_in.result c.counter_in.ensures c.unwrap_or-last.ensures c.if-last-self.false _ refl
