use Rattle.std.proofs.Common.{ℕ, ◌+◌, Option, refl, ap, ◌∙◌, arith}
use Rattle.std.specs.Prelude.{unwrap_or}
use Rattle.hs_monitors.specs.Entries.{later}
use Rattle.hs_monitors.proofs.Checks.{last_kept}
use Rattle.hs_monitors.proofs.Passing.{same_stands, other_stands}
use Rattle.hs_monitors.proofs.kept.renewed.Goals as goal

pub returns-then-last-watched-clause-stands : goal.returns-then-last-watched-clause-stands
returns-then-last-watched-clause-stands c = λ checks far stood.
    same_stands c.args.entry.now checks c.args.counters.now c.args.watched c.args.passed c.requires.cycles stood far c.unwrap_or-last.result c.counter_in.result c.counter_in.ensures c.unwrap_or-last.ensures c.if-last-watched.true

pub returns-clause-stands : goal.returns-clause-stands
returns-clause-stands c = λ checks far stood.
    other_stands c.args.entry.now checks c.args.counters.now c.args.watched c.args.passed c.requires.cycles stood far c.unwrap_or-last.result c.counter_in.result c.counter_in.ensures c.unwrap_or-last.ensures c.if-last-watched.false _ refl

pub returns-clause-again : goal.returns-clause-again
returns-clause-again c = λ checks far stood.
    absurd (c.if-last-watched.false (c.unwrap_or-last.ensures ∙ ap (λ (o : Option ℕ). unwrap_or o c.args.watched.last) c.counter_in.ensures ∙ last_kept c.args.entry.now checks c.args.counters.now (later (c.args.passed + 1) c.args.watched) stood (omega arith)))
