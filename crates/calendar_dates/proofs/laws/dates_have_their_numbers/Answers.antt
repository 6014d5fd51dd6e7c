use Rattle.calendar_dates.proofs.CalendarLemmas.{number_alone}
use Rattle.calendar_dates.proofs.laws.dates_have_their_numbers.Goals as goal

pub returns : goal.returns
returns c = number_alone
