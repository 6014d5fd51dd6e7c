use Rattle.std.proofs.Common.{◌≡◌, take}
use Rattle.timed_plans.specs.Schedules.{held_in}
use Rattle.timed_plans.specs.Pages.{written_on, with_rows, rows_of}
use Rattle.timed_plans.proofs.page.Page.put_head.Given as goal

abbrev pub invariant-loop-line : goal.invariant-loop-line
invariant-loop-line l = written_on l.self ≡ with_rows (written_on l.fn.self) (rows_of (held_in (take l.line-index l.lines)))
