use Rattle.std.proofs.Common.{◌≡◌, ◌≤◌, ◌*◌}
use Rattle.calendar_dates.specs.Calendar.{days_of_months}
use Rattle.calendar_dates.proofs.day.days_of_months.Given as goal

abbrev pub invariant-loop-passed : goal.invariant-loop-passed
invariant-loop-passed l = record {
  value : l.days ≡ days_of_months l.year l.passed;
  small : l.days ≤ 31 * l.passed;
}
