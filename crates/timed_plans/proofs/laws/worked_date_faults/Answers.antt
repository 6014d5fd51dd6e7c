use Rattle.std.proofs.Common.{refl}
use Rattle.row_forms.specs.Words.{words, digits, number}
use Rattle.row_forms.specs.Rows.{behind_key}
use Rattle.row_forms.specs.Numbers.{span_said, time_said}
use Rattle.table_texts.specs.Lines.{lines_of, kept}
use Rattle.plan_text.specs.Plans.{frame_of_time}
use Rattle.calendar_dates.specs.Calendar.{year_days, month_days, total, day_number}
use Rattle.calendar_dates.specs.Instants.{date_said, time_of_day_said, instant_at, instant_said, second_behind, gap_to, second_said}
use Rattle.timed_plans.specs.Times.{frame_of_word, dated_second, dated_word, dated_words}
use Rattle.timed_plans.specs.Kinds.{kind_of}
use Rattle.timed_plans.specs.Headings.{stepped}
use Rattle.timed_plans.specs.Schedules.{spread}
use Rattle.timed_plans.specs.Plans.{period_said, extended, lines_said, schedule_said}
use Rattle.timed_plans.proofs.laws.worked_date_faults.Goals as goal

pub returns-clause-form : goal.returns-clause-form
unfolding year_days month_days total day_number behind_key date_said time_of_day_said instant_at instant_said second_behind gap_to second_said frame_of_word dated_second dated_word dated_words words digits number span_said time_said lines_of kept kind_of stepped spread frame_of_time period_said extended lines_said schedule_said
returns-clause-form c = refl

pub returns-clause-day : goal.returns-clause-day
unfolding year_days month_days total day_number behind_key date_said time_of_day_said instant_at instant_said second_behind gap_to second_said frame_of_word dated_second dated_word dated_words words digits number span_said time_said lines_of kept kind_of stepped spread frame_of_time period_said extended lines_said schedule_said
returns-clause-day c = refl

pub returns-clause-clock : goal.returns-clause-clock
unfolding year_days month_days total day_number behind_key date_said time_of_day_said instant_at instant_said second_behind gap_to second_said frame_of_word dated_second dated_word dated_words words digits number span_said time_said lines_of kept kind_of stepped spread frame_of_time period_said extended lines_said schedule_said
returns-clause-clock c = refl

pub returns-clause-unbound : goal.returns-clause-unbound
unfolding year_days month_days total day_number behind_key date_said time_of_day_said instant_at instant_said second_behind gap_to second_said frame_of_word dated_second dated_word dated_words words digits number span_said time_said lines_of kept kind_of stepped spread frame_of_time period_said extended lines_said schedule_said
returns-clause-unbound c = refl

pub returns-clause-early : goal.returns-clause-early
unfolding year_days month_days total day_number behind_key date_said time_of_day_said instant_at instant_said second_behind gap_to second_said frame_of_word dated_second dated_word dated_words words digits number span_said time_said lines_of kept kind_of stepped spread frame_of_time period_said extended lines_said schedule_said
returns-clause-early c = refl

pub returns-clause-late : goal.returns-clause-late
unfolding year_days month_days total day_number behind_key date_said time_of_day_said instant_at instant_said second_behind gap_to second_said frame_of_word dated_second dated_word dated_words words digits number span_said time_said lines_of kept kind_of stepped spread frame_of_time period_said extended lines_said schedule_said
returns-clause-late c = refl

pub returns-clause-frames : goal.returns-clause-frames
unfolding year_days month_days total day_number behind_key date_said time_of_day_said instant_at instant_said second_behind gap_to second_said frame_of_word dated_second dated_word dated_words words digits number span_said time_said lines_of kept kind_of stepped spread frame_of_time period_said extended lines_said schedule_said
returns-clause-frames c = refl
