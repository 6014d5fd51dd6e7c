use Rattle.std.proofs.Common.{refl}
use Rattle.calendar_dates.specs.Calendar.{year_days, month_days, total, day_number, next_day}
use Rattle.calendar_dates.proofs.laws.worked_days.Goals as goal

pub returns-clause-first : goal.returns-clause-first
unfolding year_days month_days total day_number next_day
returns-clause-first c = refl

pub returns-clause-leap : goal.returns-clause-leap
unfolding year_days month_days total day_number next_day
returns-clause-leap c = refl

pub returns-clause-first_of_march : goal.returns-clause-first_of_march
unfolding year_days month_days total day_number next_day
returns-clause-first_of_march c = refl

pub returns-clause-no_leap : goal.returns-clause-no_leap
unfolding year_days month_days total day_number next_day
returns-clause-no_leap c = refl

pub returns-clause-today : goal.returns-clause-today
unfolding year_days month_days total day_number next_day
returns-clause-today c = refl

pub returns-clause-century : goal.returns-clause-century
unfolding year_days month_days total day_number next_day
returns-clause-century c = refl

pub returns-clause-last : goal.returns-clause-last
unfolding year_days month_days total day_number next_day
returns-clause-last c = refl

pub returns-clause-behind : goal.returns-clause-behind
unfolding year_days month_days total day_number next_day
returns-clause-behind c = refl

pub returns-clause-year : goal.returns-clause-year
unfolding year_days month_days total day_number next_day
returns-clause-year c = refl

pub returns-clause-february : goal.returns-clause-february
unfolding year_days month_days total day_number next_day
returns-clause-february c = refl

pub returns-clause-no_leap_day : goal.returns-clause-no_leap_day
unfolding year_days month_days total day_number next_day
returns-clause-no_leap_day c = refl
