use Rattle.std.proofs.Common.{refl}
use Rattle.row_forms.specs.Words.{words, digits, number}
use Rattle.row_forms.specs.Rows.{behind_key}
use Rattle.row_forms.specs.Numbers.{span_said, time_said}
use Rattle.table_texts.specs.Lines.{lines_of, kept}
use Rattle.plan_text.specs.Plans.{frame_of_time}
use Rattle.calendar_dates.specs.Instants.{date_said, time_of_day_said, instant_at, instant_said, second_behind, gap_to, second_said}
use Rattle.timed_plans.specs.Times.{frame_of_word, dated_second, dated_word, dated_words}
use Rattle.timed_plans.specs.Kinds.{kind_of}
use Rattle.timed_plans.specs.Headings.{stepped}
use Rattle.timed_plans.specs.Schedules.{spread}
use Rattle.timed_plans.specs.Plans.{period_said, extended, lines_said, schedule_said}
use Rattle.timed_plans.proofs.laws.worked_faults.Goals as goal

pub returns-clause-place : goal.returns-clause-place
unfolding behind_key date_said time_of_day_said instant_at instant_said second_behind gap_to second_said frame_of_word dated_second dated_word dated_words words digits number span_said time_said lines_of kept kind_of stepped spread frame_of_time period_said extended lines_said schedule_said
returns-clause-place c = refl

pub returns-clause-word : goal.returns-clause-word
unfolding behind_key date_said time_of_day_said instant_at instant_said second_behind gap_to second_said frame_of_word dated_second dated_word dated_words words digits number span_said time_said lines_of kept kind_of stepped spread frame_of_time period_said extended lines_said schedule_said
returns-clause-word c = refl

pub returns-clause-early : goal.returns-clause-early
unfolding behind_key date_said time_of_day_said instant_at instant_said second_behind gap_to second_said frame_of_word dated_second dated_word dated_words words digits number span_said time_said lines_of kept kind_of stepped spread frame_of_time period_said extended lines_said schedule_said
returns-clause-early c = refl

pub returns-clause-backward : goal.returns-clause-backward
unfolding behind_key date_said time_of_day_said instant_at instant_said second_behind gap_to second_said frame_of_word dated_second dated_word dated_words words digits number span_said time_said lines_of kept kind_of stepped spread frame_of_time period_said extended lines_said schedule_said
returns-clause-backward c = refl

pub returns-clause-span : goal.returns-clause-span
unfolding behind_key date_said time_of_day_said instant_at instant_said second_behind gap_to second_said frame_of_word dated_second dated_word dated_words words digits number span_said time_said lines_of kept kind_of stepped spread frame_of_time period_said extended lines_said schedule_said
returns-clause-span c = refl

pub returns-clause-period : goal.returns-clause-period
unfolding behind_key date_said time_of_day_said instant_at instant_said second_behind gap_to second_said frame_of_word dated_second dated_word dated_words words digits number span_said time_said lines_of kept kind_of stepped spread frame_of_time period_said extended lines_said schedule_said
returns-clause-period c = refl

pub returns-clause-hold : goal.returns-clause-hold
unfolding behind_key date_said time_of_day_said instant_at instant_said second_behind gap_to second_said frame_of_word dated_second dated_word dated_words words digits number span_said time_said lines_of kept kind_of stepped spread frame_of_time period_said extended lines_said schedule_said
returns-clause-hold c = refl

pub returns-clause-counter : goal.returns-clause-counter
unfolding behind_key date_said time_of_day_said instant_at instant_said second_behind gap_to second_said frame_of_word dated_second dated_word dated_words words digits number span_said time_said lines_of kept kind_of stepped spread frame_of_time period_said extended lines_said schedule_said
returns-clause-counter c = refl

pub returns-clause-past : goal.returns-clause-past
unfolding behind_key date_said time_of_day_said instant_at instant_said second_behind gap_to second_said frame_of_word dated_second dated_word dated_words words digits number span_said time_said lines_of kept kind_of stepped spread frame_of_time period_said extended lines_said schedule_said
returns-clause-past c = refl

pub returns-clause-end : goal.returns-clause-end
unfolding behind_key date_said time_of_day_said instant_at instant_said second_behind gap_to second_said frame_of_word dated_second dated_word dated_words words digits number span_said time_said lines_of kept kind_of stepped spread frame_of_time period_said extended lines_said schedule_said
returns-clause-end c = refl

pub returns-clause-behind : goal.returns-clause-behind
unfolding behind_key date_said time_of_day_said instant_at instant_said second_behind gap_to second_said frame_of_word dated_second dated_word dated_words words digits number span_said time_said lines_of kept kind_of stepped spread frame_of_time period_said extended lines_said schedule_said
returns-clause-behind c = refl

pub returns-clause-frames : goal.returns-clause-frames
unfolding behind_key date_said time_of_day_said instant_at instant_said second_behind gap_to second_said frame_of_word dated_second dated_word dated_words words digits number span_said time_said lines_of kept kind_of stepped spread frame_of_time period_said extended lines_said schedule_said
returns-clause-frames c = refl

pub returns-clause-held : goal.returns-clause-held
unfolding behind_key date_said time_of_day_said instant_at instant_said second_behind gap_to second_said frame_of_word dated_second dated_word dated_words words digits number span_said time_said lines_of kept kind_of stepped spread frame_of_time period_said extended lines_said schedule_said
returns-clause-held c = refl

pub returns-clause-seconds : goal.returns-clause-seconds
unfolding behind_key date_said time_of_day_said instant_at instant_said second_behind gap_to second_said frame_of_word dated_second dated_word dated_words words digits number span_said time_said lines_of kept kind_of stepped spread frame_of_time period_said extended lines_said schedule_said
returns-clause-seconds c = refl

pub returns-clause-minutes : goal.returns-clause-minutes
unfolding behind_key date_said time_of_day_said instant_at instant_said second_behind gap_to second_said frame_of_word dated_second dated_word dated_words words digits number span_said time_said lines_of kept kind_of stepped spread frame_of_time period_said extended lines_said schedule_said
returns-clause-minutes c = refl
