use Rattle.std.proofs.Common.{◌≡◌, ◌+◌, ◌-◌, ◌++◌, map}
use Rattle.plan_text.specs.Lines.{line_text}
use Rattle.timed_plans.specs.Headings.{stepped, frames_in}
use Rattle.timed_plans.specs.Schedules.{app_line, held_in}
use Rattle.timed_plans.proofs.HoldLemmas.{as_text}
use Rattle.timed_plans.proofs.scheduled.add_counts.Given as goal

abbrev pub invariant-loop-done : goal.invariant-loop-done
invariant-loop-done l =
    held_in l.lines.items ++ map (λ n. as_text n l.number (line_text (app_line l.name (n + 1)))) (stepped (l.heading.count - l._done) l.frame l.heading.step l.heading.last)
    ≡ held_in l.fn.lines.items ++ map (λ n. as_text n l.number (line_text (app_line l.name (n + 1)))) (frames_in l.heading)
