use Rattle.std.proofs.Common.{refl}
use Rattle.row_forms.specs.Words.{digits, number}
use Rattle.calendar_dates.specs.Calendar.{year_days, month_days, total, day_number}
use Rattle.calendar_dates.specs.Instants.{date_said, time_of_day_said, instant_at, instant_said, second_behind, gap_to, second_said}
use Rattle.calendar_dates.proofs.laws.worked_seconds.Goals as goal

pub returns-clause-instant : goal.returns-clause-instant
unfolding digits number year_days month_days total day_number date_said time_of_day_said instant_at instant_said second_behind gap_to second_said
returns-clause-instant c = refl

pub returns-clause-date : goal.returns-clause-date
unfolding digits number year_days month_days total day_number date_said time_of_day_said instant_at instant_said second_behind gap_to second_said
returns-clause-date c = refl

pub returns-clause-time : goal.returns-clause-time
unfolding digits number year_days month_days total day_number date_said time_of_day_said instant_at instant_said second_behind gap_to second_said
returns-clause-time c = refl

pub returns-clause-epoch : goal.returns-clause-epoch
unfolding digits number year_days month_days total day_number date_said time_of_day_said instant_at instant_said second_behind gap_to second_said
returns-clause-epoch c = refl

pub returns-clause-tomorrow : goal.returns-clause-tomorrow
unfolding digits number year_days month_days total day_number date_said time_of_day_said instant_at instant_said second_behind gap_to second_said
returns-clause-tomorrow c = refl

pub returns-clause-day : goal.returns-clause-day
unfolding digits number year_days month_days total day_number date_said time_of_day_said instant_at instant_said second_behind gap_to second_said
returns-clause-day c = refl

pub returns-clause-clock : goal.returns-clause-clock
unfolding digits number year_days month_days total day_number date_said time_of_day_said instant_at instant_said second_behind gap_to second_said
returns-clause-clock c = refl

pub returns-clause-minute : goal.returns-clause-minute
unfolding digits number year_days month_days total day_number date_said time_of_day_said instant_at instant_said second_behind gap_to second_said
returns-clause-minute c = refl

pub returns-clause-early : goal.returns-clause-early
unfolding digits number year_days month_days total day_number date_said time_of_day_said instant_at instant_said second_behind gap_to second_said
returns-clause-early c = refl

pub returns-clause-late : goal.returns-clause-late
unfolding digits number year_days month_days total day_number date_said time_of_day_said instant_at instant_said second_behind gap_to second_said
returns-clause-late c = refl

pub returns-clause-unbound : goal.returns-clause-unbound
unfolding digits number year_days month_days total day_number date_said time_of_day_said instant_at instant_said second_behind gap_to second_said
returns-clause-unbound c = refl

pub returns-clause-span : goal.returns-clause-span
unfolding digits number year_days month_days total day_number date_said time_of_day_said instant_at instant_said second_behind gap_to second_said
returns-clause-span c = refl

pub returns-clause-number : goal.returns-clause-number
unfolding digits number year_days month_days total day_number date_said time_of_day_said instant_at instant_said second_behind gap_to second_said
returns-clause-number c = refl

pub returns-clause-form : goal.returns-clause-form
unfolding digits number year_days month_days total day_number date_said time_of_day_said instant_at instant_said second_behind gap_to second_said
returns-clause-form c = refl
