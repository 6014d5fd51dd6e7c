use Rattle.calendar_dates.proofs.CalendarLemmas.{time_first}
use Rattle.calendar_dates.proofs.laws.times_come_first.Goals as goal

pub returns : goal.returns
returns c = time_first
