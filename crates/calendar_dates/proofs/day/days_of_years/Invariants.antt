use Rattle.std.proofs.Common.{◌≡◌, ◌≤◌, ◌*◌}
use Rattle.calendar_dates.specs.Calendar.{days_of_years}
use Rattle.calendar_dates.proofs.day.days_of_years.Given as goal

abbrev pub invariant-loop-passed : goal.invariant-loop-passed
invariant-loop-passed l = record {
  value : l.days ≡ days_of_years l.passed;
  small : l.days ≤ 366 * l.passed;
}
