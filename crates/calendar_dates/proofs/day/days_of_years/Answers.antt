use Rattle.std.proofs.Common.{◌+◌, arith, refl}
use Rattle.calendar_dates.specs.Calendar.{total}
use Rattle.calendar_dates.proofs.CalendarLemmas.{year_short, year_more}
use Rattle.calendar_dates.proofs.day.days_of_years.Goals as goal

pub overflow_add-days : goal.overflow_add-days
overflow_add-days c =
    let short = year_short (1970 + c.loop-passed.passed) in
    omega (arith, short, c.year_days-days.ensures, c.loop-passed.invariant.small)

pub loop-passed-preserved : goal.loop-passed-preserved
loop-passed-preserved c =
    let short = year_short (1970 + c.loop-passed.passed) in
    let more = year_more c.loop-passed.passed in
    record {
      value = omega (arith, more, c.year_days-days.ensures, c.loop-passed.invariant.value);
      small = omega (arith, short, c.year_days-days.ensures, c.loop-passed.invariant.small);
    }

pub loop-passed-init : goal.loop-passed-init
unfolding total
loop-passed-init c = record { value = refl; small = omega arith }
