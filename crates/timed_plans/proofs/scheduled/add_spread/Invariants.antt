use Rattle.std.proofs.Common.{◌≡◌, ℕ, List, ◌++◌, map}
use Rattle.plan_text.specs.Lines.{line_text}
use Rattle.timed_plans.specs.Schedules.{held_in, spread, shown}
use Rattle.timed_plans.proofs.scheduled.add_spread.Given as goal

abbrev pub invariant-loop-later : goal.invariant-loop-later
invariant-loop-later l =
    (line : List (List ℕ)) → l.text ≡ line_text line → held_in l.lines.items ≡ held_in l.fn.lines.items ++ map shown (spread l.later l.heading l.number line)
