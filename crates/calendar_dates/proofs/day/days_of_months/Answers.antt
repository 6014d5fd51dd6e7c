use Rattle.std.proofs.Common.{◌+◌, arith, refl}
use Rattle.calendar_dates.specs.Calendar.{total}
use Rattle.calendar_dates.proofs.CalendarLemmas.{month_short, month_more}
use Rattle.calendar_dates.proofs.day.days_of_months.Goals as goal

pub loop-passed-init : goal.loop-passed-init
unfolding total
loop-passed-init c = record { value = refl; small = omega arith }

pub overflow_add-days : goal.overflow_add-days
overflow_add-days c =
    let short = month_short c.args.year (c.loop-passed.passed + 1) in
    omega (arith, short, c.month_days-days.ensures, c.loop-passed.invariant.small)

pub loop-passed-preserved : goal.loop-passed-preserved
loop-passed-preserved c =
    let short = month_short c.args.year (c.loop-passed.passed + 1) in
    let more = month_more c.args.year c.loop-passed.passed in
    record {
      value = omega (arith, more, c.month_days-days.ensures, c.loop-passed.invariant.value);
      small = omega (arith, short, c.month_days-days.ensures, c.loop-passed.invariant.small);
    }
