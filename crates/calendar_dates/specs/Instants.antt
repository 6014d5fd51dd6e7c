-- What a text says as a date, and the second of a clock that is bound to a date.
use Rattle.std.specs.Prelude.{ℕ, ◌+◌, ◌-◌, ◌*◌, ◌%◌, ◌==◌, ◌&&◌, if◌then◌else◌, nat_lt, nat_le, List, length, take, drop, slice_index, Option, Some, None, Result, Ok, Err}
use Rattle.row_forms.specs.Words.{number}
use Rattle.calendar_dates.specs.declared.date.Date.{Date}
use Rattle.calendar_dates.specs.declared.date.TimeOfDay.{TimeOfDay}
use Rattle.calendar_dates.specs.declared.epoch.Epoch.{Epoch}
use Rattle.calendar_dates.specs.declared.fault.DateFault.{DateFault}
use Rattle.calendar_dates.specs.declared.fault.DateFault.TheVariants as faults
use Rattle.calendar_dates.specs.Calendar.{is_date, day_number, is_time_of_day, day_seconds}

abbrev pub date_of : Option ℕ → Option ℕ → Option ℕ → Option Date
date_of (Some year) (Some month) (Some day) = Some (record { year = year; month = month; day = day })
date_of year month day = None

-- the numbers that `YYYY-MM-DD` says
unfoldable pub date_said : List ℕ → Option Date
date_said text =
    if (length text == 10) && (slice_index text 4 == 45) && (slice_index text 7 == 45)
    then date_of (number 9999 (take 4 text)) (number 99 (take 2 (drop 5 text))) (number 99 (drop 8 text))
    else None

abbrev pub time_of : Option ℕ → Option ℕ → Option ℕ → Option TimeOfDay
time_of (Some hours) (Some minutes) (Some seconds) = Some (record { hours = hours; minutes = minutes; seconds = seconds })
time_of hours minutes seconds = None

-- the numbers that `HH:MM:SS` says
unfoldable pub time_of_day_said : List ℕ → Option TimeOfDay
time_of_day_said text =
    if (length text == 8) && (slice_index text 2 == 58) && (slice_index text 5 == 58)
    then time_of (number 99 (take 2 text)) (number 99 (take 2 (drop 3 text))) (number 99 (drop 6 text))
    else None

-- the instant of a date and a time of day: the seconds from 1970-01-01T00:00:00Z on, of which each day has 86,400
unfoldable pub instant_at : Date → TimeOfDay → Result ℕ DateFault
instant_at d t =
    if is_date d then (if is_time_of_day t then Ok (86400 * day_number d + day_seconds t) else Err faults.Clock)
    else Err faults.Day

abbrev pub instant_of : Option Date → Option TimeOfDay → Option (Result ℕ DateFault)
instant_of (Some d) (Some t) = Some (instant_at d t)
instant_of d t = None

-- the instant that `YYYY-MM-DDTHH:MM:SSZ` says; none where the text has another form
unfoldable pub instant_said : List ℕ → Option (Result ℕ DateFault)
instant_said text =
    if (length text == 20) && (slice_index text 10 == 84) && (slice_index text 19 == 90)
    then instant_of (date_said (take 10 text)) (time_of_day_said (take 8 (drop 11 text)))
    else None

-- the second so many behind another one, where the processor's clock has it
unfoldable pub second_behind : ℕ → ℕ → Result ℕ DateFault
second_behind second gap = if nat_le (second + gap) 4294967295 then Ok (second + gap) else Err faults.Late

-- how long behind an instant its clock has a time of day first, so many seconds behind midnight: on that day, or on the day behind it
unfoldable pub gap_to : ℕ → ℕ → ℕ
gap_to instant time = if nat_le (instant % 86400) time then time - instant % 86400 else time + 86400 - instant % 86400

-- the second of an instant, where the second of another one is known
abbrev pub second_at : ℕ → Option ℕ → ℕ → Result ℕ DateFault
second_at second None instant = Err faults.Unbound
second_at second (Some first) instant = if nat_lt instant first then Err faults.Early else second_behind second (instant - first)

-- the second at which a time of day comes first
abbrev pub second_first : ℕ → Option ℕ → ℕ → Result ℕ DateFault
second_first second None time = Err faults.Unbound
second_first second (Some first) time = second_behind second (gap_to first time)

abbrev pub second_of_instant : Epoch → Result ℕ DateFault → Result ℕ DateFault
second_of_instant e (Ok instant) = second_at e.second e.instant instant
second_of_instant e (Err fault) = Err fault

abbrev pub second_of_time : Epoch → TimeOfDay → Result ℕ DateFault
second_of_time e t = if is_time_of_day t then second_first e.second e.instant (day_seconds t) else Err faults.Clock

abbrev pub said_by_time : Epoch → Option TimeOfDay → Option (Result ℕ DateFault)
said_by_time e (Some t) = Some (second_of_time e t)
said_by_time e None = None

abbrev pub said_by : Epoch → Option (Result ℕ DateFault) → Option TimeOfDay → Option (Result ℕ DateFault)
said_by e (Some instant) time = Some (second_of_instant e instant)
said_by e None time = said_by_time e time

-- the second that a date or a time of day says; none where the text has another form
unfoldable pub second_said : Epoch → List ℕ → Option (Result ℕ DateFault)
second_said e text = said_by e (instant_said text) (time_of_day_said text)

-- second 1000 is 2026-11-29T18:00:00Z; or it is no date
abbrev pub bound : Epoch
bound = record { second = 1000; instant = Some 1795975200 }

abbrev pub unbound : Epoch
unbound = record { second = 1000; instant = None }
