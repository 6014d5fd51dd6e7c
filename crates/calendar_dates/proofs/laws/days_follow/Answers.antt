use Rattle.calendar_dates.proofs.CalendarLemmas.{next_is_date, next_number}
use Rattle.calendar_dates.proofs.laws.days_follow.Goals as goal

pub returns-clause-dates : goal.returns-clause-dates
returns-clause-dates c = next_is_date

pub returns-clause-numbers : goal.returns-clause-numbers
returns-clause-numbers c = next_number
