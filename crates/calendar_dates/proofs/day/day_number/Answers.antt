use Rattle.std.proofs.Common.{arith}
use Rattle.calendar_dates.proofs.CalendarLemmas.{date_is, month_short}
use Rattle.calendar_dates.proofs.day.day_number.Goals as goal

pub returns-clause-bound : goal.returns-clause-bound
returns-clause-bound c =
    let d = c.args.date.now in
    let is = date_is d c.requires in
    let short = month_short d.year d.month in
    omega (arith, is.within, is.to, is.last, is.begin, short, c.days_of_years.ensures.bound, c.days_of_months.ensures.bound, c.from.ensures)
