use Rattle.std.proofs.Common.{◌≡◌, drop}
use Rattle.timed_plans.specs.Schedules.{held_in}
use Rattle.timed_plans.specs.Pages.{written_on, with_rows, merged}
use Rattle.timed_plans.proofs.page.Page.put_frames.Given as goal

abbrev pub invariant-loop-line : goal.invariant-loop-line
invariant-loop-line l =
    with_rows (written_on l.self) (merged l.come l.frames l.number (held_in (drop l.line-index l.lines)))
    ≡ with_rows (written_on l.fn.self) (merged 0 l.frames l.number (held_in l.lines))
