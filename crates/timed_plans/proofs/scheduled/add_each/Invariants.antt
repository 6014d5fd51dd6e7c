use Rattle.std.proofs.Common.{◌≡◌, ◌+◌, ◌-◌, ◌++◌, map}
use Rattle.timed_plans.specs.Headings.{stepped}
use Rattle.timed_plans.specs.Schedules.{held_in, texts_in}
use Rattle.timed_plans.proofs.HoldLemmas.{as_text}
use Rattle.timed_plans.proofs.scheduled.add_each.Given as goal

abbrev pub invariant-loop-done : goal.invariant-loop-done
invariant-loop-done l =
    held_in l.lines.items ++ map (λ n. as_text (n + l.later) l.number l.text) (stepped (l.heading.count - l._done) l.frame l.heading.step l.heading.last)
    ≡ held_in l.fn.lines.items ++ texts_in l.heading l.later l.number l.text
