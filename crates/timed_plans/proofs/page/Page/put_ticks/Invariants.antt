use Rattle.std.proofs.Common.{◌≡◌}
use Rattle.std.specs.Prelude.{replicate}
use Rattle.timed_plans.specs.Pages.{written_on, with_rows, tick_row}
use Rattle.timed_plans.proofs.page.Page.put_ticks.Given as goal

abbrev pub invariant-loop-done : goal.invariant-loop-done
invariant-loop-done l = written_on l.self ≡ with_rows (written_on l.fn.self) (replicate l._done (tick_row l.number))
