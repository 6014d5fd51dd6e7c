-- Dates of the Gregorian calendar, and the numbers of their days.
use Rattle.std.specs.Prelude.{ℕ, zero, suc, ◌+◌, ◌-◌, ◌*◌, ◌%◌, ◌==◌, Bool, ◌&&◌, ◌||◌, not, if◌then◌else◌, nat_lt, nat_le}
use Rattle.calendar_dates.specs.declared.date.Date.{Date}
use Rattle.calendar_dates.specs.declared.date.TimeOfDay.{TimeOfDay}

-- whether a year has a 29th of February
abbrev pub is_leap : ℕ → Bool
is_leap year = ((year % 4 == 0) && not (year % 100 == 0)) || (year % 400 == 0)

-- how many days a year has
unfoldable pub year_days : ℕ → ℕ
year_days year = if is_leap year then 366 else 365

-- how many days a month has
unfoldable pub month_days : ℕ → ℕ → ℕ
month_days year month =
    if month == 2 then (if is_leap year then 29 else 28)
    else if (month == 4) || (month == 6) || (month == 9) || (month == 11) then 30
    else 31

-- whether there is this date, in the years 1970 to 2199
abbrev pub is_date : Date → Bool
is_date d =
    nat_le 1970 d.year && nat_le d.year 2199 && nat_le 1 d.month && nat_le d.month 12
    && nat_le 1 d.day && nat_le d.day (month_days d.year d.month)

-- what a function gives at the first n numbers, added
unfoldable pub total : (ℕ → ℕ) → ℕ → ℕ
total f zero = 0
total f (suc n) = total f n + f n

-- the days of so many years from 1970 on
abbrev pub days_of_years : ℕ → ℕ
days_of_years n = total (λ k. year_days (1970 + k)) n

-- the days of the first so many months of a year
abbrev pub days_of_months : ℕ → ℕ → ℕ
days_of_months year n = total (λ k. month_days year (k + 1)) n

-- how many days lie before a date, from 1970-01-01 on: those of the years before its year, of the months before its month, and the others
unfoldable pub day_number : Date → ℕ
day_number d = days_of_years (d.year - 1970) + days_of_months d.year (d.month - 1) + (d.day - 1)

-- the day behind a date
unfoldable pub next_day : Date → Date
next_day d =
    if nat_lt d.day (month_days d.year d.month) then record { year = d.year; month = d.month; day = d.day + 1 }
    else if nat_lt d.month 12 then record { year = d.year; month = d.month + 1; day = 1 }
    else record { year = d.year + 1; month = 1; day = 1 }

-- whether there is this time of day
abbrev pub is_time_of_day : TimeOfDay → Bool
is_time_of_day t = nat_lt t.hours 24 && nat_lt t.minutes 60 && nat_lt t.seconds 60

-- the seconds of a time of day behind midnight
abbrev pub day_seconds : TimeOfDay → ℕ
day_seconds t = 3600 * t.hours + 60 * t.minutes + t.seconds

-- a date by its numbers
abbrev pub date : ℕ → ℕ → ℕ → Date
date year month day = record { year = year; month = month; day = day }
