-- Lemmas on days.
use Rattle.std.proofs.Common.{◌≡◌, ℕ, zero, suc, ◌+◌, ◌-◌, ◌*◌, ◌%◌, ◌<◌, ◌≤◌, Bool, true, false, refl, ap, sym, subst, ◌∙◌, arith, add-one, inl, inr}
use Rattle.std.specs.Prelude.{◌==◌, ◌||◌, ◌/◌, if◌then◌else◌, nat_lt, nat_le}
use Rattle.std.proofs.lemmas.Bool.Decides.{nat_tests, leb_tells}
use Rattle.calendar_dates.specs.declared.date.Date.{Date}
use Rattle.calendar_dates.specs.Instants.{gap_to}
use Rattle.calendar_dates.specs.Calendar.{is_leap, year_days, month_days, is_date, total, days_of_years, days_of_months, day_number, next_day, date}

-- ---- how long years and months are

year_by : (b : Bool) → (if b then 366 else 365) ≤ 366
year_by true = omega arith
year_by false = omega arith

pub year_short : (year : ℕ) → year_days year ≤ 366
unfolding year_days
year_short year = year_by (is_leap year)

month_by : (two leap four : Bool) → (if two then (if leap then 29 else 28) else if four then 30 else 31) ≤ 31
month_by true true four = omega arith
month_by true false four = omega arith
month_by false leap true = omega arith
month_by false leap false = omega arith

pub month_short : (year month : ℕ) → month_days year month ≤ 31
unfolding month_days
month_short year month = month_by (month == 2) (is_leap year) ((month == 4) || (month == 6) || (month == 9) || (month == 11))

months_from : (two leap four : Bool) → 28 ≤ (if two then (if leap then 29 else 28) else if four then 30 else 31)
months_from true true four = omega arith
months_from true false four = omega arith
months_from false leap true = omega arith
months_from false leap false = omega arith

pub month_long : (year month : ℕ) → 28 ≤ month_days year month
unfolding month_days
month_long year month = months_from (month == 2) (is_leap year) ((month == 4) || (month == 6) || (month == 9) || (month == 11))

months_by : (b : Bool) → 0 + 31 + (if b then 29 else 28) + 31 + 30 + 31 + 30 + 31 + 31 + 30 + 31 + 30 + 31 ≡ (if b then 366 else 365)
months_by true = refl
months_by false = refl

-- twelve months are a year
pub twelve_months : (year : ℕ) → days_of_months year 12 ≡ year_days year
unfolding total month_days year_days
twelve_months year = months_by (is_leap year)

-- ---- totals

pub total_more : (f : ℕ → ℕ) (n : ℕ) → total f (n + 1) ≡ total f n + f n
unfolding total
total_more f n = ap (total f) (add-one n)

total_up : (f : ℕ → ℕ) (a b : ℕ) → a ≤ b → total f a ≤ total f b
unfolding total
total_up f a zero le = let e : a ≡ 0 = omega arith in rw e (omega arith)
total_up f a (suc b) le = elim (leb_tells a b) [
  | inl within ↦ (let up = total_up f a b within.1 in omega (arith, up))
  | inr last ↦ (let e : a ≡ suc b = omega (arith, last.1, le) in rw e (omega arith))
]

pub year_more : (n : ℕ) → days_of_years (n + 1) ≡ days_of_years n + year_days (1970 + n)
year_more n = total_more (λ k. year_days (1970 + k)) n

pub month_more : (year n : ℕ) → days_of_months year (n + 1) ≡ days_of_months year n + month_days year (n + 1)
month_more year n = total_more (λ k. month_days year (k + 1)) n

-- a place in a total is the place of one number
not_before : (f : ℕ → ℕ) (a b r s : ℕ) → total f a + r ≡ total f b + s → r < f a → a < b → ⊥
not_before f a b r s same inside less =
    let up = total_up f (a + 1) b (omega arith) in
    let more = total_more f a in
    omega (arith, up, more, same, inside)

pub place_alone : (f : ℕ → ℕ) (a b r s : ℕ) → total f a + r ≡ total f b + s → r < f a → s < f b → (a ≡ b) × (r ≡ s)
place_alone f a b r s same inside within = elim (leb_tells a b) [
  | inl le ↦ elim (leb_tells b a) [
    | inl ge ↦ (let e : a ≡ b = omega (arith, le.1, ge.1) in (e, (let t = ap (total f) e in omega (arith, t, same))))
    | inr less ↦ absurd (not_before f a b r s same inside less.1)
  ]
  | inr less ↦ absurd (not_before f b a s r (sym same) within less.1)
]

-- ---- dates

pub record IsDate (d : Date) : Type 0 where
  pub from : 1970 ≤ d.year
  pub to : d.year ≤ 2199
  pub first : 1 ≤ d.month
  pub last : d.month ≤ 12
  pub begin : 1 ≤ d.day
  pub within : d.day ≤ month_days d.year d.month

pub date_is : (d : Date) → is_date d ≡ true → IsDate d
date_is d e = record {
  from = grind (arith, nat_tests);
  to = grind (arith, nat_tests);
  first = grind (arith, nat_tests);
  last = grind (arith, nat_tests);
  begin = grind (arith, nat_tests);
  within = grind (arith, nat_tests);
}

-- the days before a month and those of the month
pub month_passed : (year month : ℕ) → 1 ≤ month → days_of_months year month ≡ days_of_months year (month - 1) + month_days year month
month_passed year month first =
    let e : (month - 1) + 1 ≡ month = omega arith in
    subst (λ (m : ℕ). days_of_months year m ≡ days_of_months year (month - 1) + month_days year m) e (month_more year (month - 1))

-- the days before a year and those of the year
pub year_passed : (year : ℕ) → 1970 ≤ year → days_of_years (year + 1 - 1970) ≡ days_of_years (year - 1970) + year_days year
year_passed year from =
    let e : (year - 1970) + 1 ≡ year + 1 - 1970 = omega arith in
    let f : 1970 + (year - 1970) ≡ year = omega arith in
    let more = year_more (year - 1970) in
    let g = ap days_of_years e in
    let h = ap year_days f in
    omega (arith, more, g, h)

-- ---- the day behind a date

data Next (d : Date) : Type 0 where
  Inside : d.day < month_days d.year d.month → next_day d ≡ date d.year d.month (d.day + 1) → Next d
  Month : d.day ≡ month_days d.year d.month → d.month < 12 → next_day d ≡ date d.year (d.month + 1) 1 → Next d
  Year : d.day ≡ month_days d.year d.month → d.month ≡ 12 → next_day d ≡ date (d.year + 1) 1 1 → Next d

next_of : (d : Date) → IsDate d → Next d
unfolding next_day
next_of d is = elim (leb_tells (month_days d.year d.month) d.day) [
  | inl all ↦ (
      let last : d.day ≡ month_days d.year d.month = omega (arith, all.1, is.within) in
      let no : nat_lt d.day (month_days d.year d.month) ≡ false = grind (arith, nat_tests) in
      elim (leb_tells 12 d.month) [
        | inl end ↦ (let no2 : nat_lt d.month 12 ≡ false = grind (arith, nat_tests) in Year last (omega (arith, end.1, is.last)) (rw (no, no2) refl))
        | inr more ↦ (let yes2 : nat_lt d.month 12 ≡ true = grind (arith, nat_tests) in Month last more.1 (rw (no, yes2) refl))
      ])
  | inr more ↦ (let yes1 : nat_lt d.day (month_days d.year d.month) ≡ true = grind (arith, nat_tests) in Inside more.1 (rw yes1 refl))
]

number_inside : (d : Date) → IsDate d → day_number (date d.year d.month (d.day + 1)) ≡ day_number d + 1
unfolding day_number
number_inside d is = omega (arith, is.begin)

number_month : (d : Date) → IsDate d → d.day ≡ month_days d.year d.month → day_number (date d.year (d.month + 1) 1) ≡ day_number d + 1
unfolding day_number
number_month d is last =
    let e : d.month + 1 - 1 ≡ d.month = omega arith in
    let passed = month_passed d.year d.month is.first in
    let g = ap (days_of_months d.year) e in
    omega (arith, passed, g, last, is.begin)

no_months : (year : ℕ) → days_of_months year 0 ≡ 0
unfolding total
no_months year = refl

number_year : (d : Date) → IsDate d → d.day ≡ month_days d.year d.month → d.month ≡ 12 → day_number (date (d.year + 1) 1 1) ≡ day_number d + 1
unfolding day_number
number_year d is last december =
    let passed = month_passed d.year d.month is.first in
    let g = ap (days_of_months d.year) december in
    let all = twelve_months d.year in
    let none = no_months (d.year + 1) in
    let years = year_passed d.year is.from in
    omega (arith, passed, g, all, none, years, last, is.begin)

number_behind : (d : Date) → IsDate d → Next d → day_number (next_day d) ≡ day_number d + 1
number_behind d is (Inside less e) = ap day_number e ∙ number_inside d is
number_behind d is (Month last less e) = ap day_number e ∙ number_month d is last
number_behind d is (Year last december e) = ap day_number e ∙ number_year d is last december

pub next_number : (d : Date) → is_date d ≡ true → day_number (next_day d) ≡ day_number d + 1
next_number d e = let is = date_is d e in number_behind d is (next_of d is)

is_date_of : (d : Date) → 1970 ≤ d.year → d.year ≤ 2199 → 1 ≤ d.month → d.month ≤ 12 → 1 ≤ d.day → d.day ≤ month_days d.year d.month → is_date d ≡ true
is_date_of d a b c f g h = grind (arith, nat_tests)

date_behind : (d : Date) → IsDate d → Next d → (next_day d).year ≤ 2199 → is_date (next_day d) ≡ true
date_behind d is (Inside less e) to =
    ap is_date e ∙ is_date_of (date d.year d.month (d.day + 1)) is.from is.to is.first is.last (omega arith) (omega (arith, less))
date_behind d is (Month last less e) to =
    let long = month_long d.year (d.month + 1) in
    ap is_date e ∙ is_date_of (date d.year (d.month + 1) 1) is.from is.to (omega arith) (omega (arith, less)) (omega arith) (omega (arith, long))
date_behind d is (Year last december e) to =
    let long = month_long (d.year + 1) 1 in
    let year = ap (λ (x : Date). x.year) e in
    ap is_date e ∙ is_date_of (date (d.year + 1) 1 1) (omega (arith, is.from)) (omega (arith, to, year)) (omega arith) (omega arith) (omega arith) (omega (arith, long))

pub next_is_date : (d : Date) → is_date d ≡ true → (next_day d).year ≤ 2199 → is_date (next_day d) ≡ true
next_is_date d e to = let is = date_is d e in date_behind d is (next_of d is) to

-- ---- one number a date

-- the number of a date within its year
year_day : Date → ℕ
year_day d = days_of_months d.year (d.month - 1) + (d.day - 1)

total_within : (year a b : ℕ) → a ≤ b → days_of_months year a ≤ days_of_months year b
total_within year a b le = total_up (λ k. month_days year (k + 1)) a b le

year_day_inside : (d : Date) → IsDate d → year_day d < year_days d.year
unfolding year_day
year_day_inside d is =
    let passed = month_passed d.year d.month is.first in
    let up = total_within d.year d.month 12 is.last in
    let all = twelve_months d.year in
    omega (arith, passed, up, all, is.within, is.begin)

number_parts : (d : Date) → day_number d ≡ days_of_years (d.year - 1970) + year_day d
unfolding day_number year_day
number_parts d = omega arith

year_at : (d : Date) → IsDate d → year_day d < year_days (1970 + (d.year - 1970))
year_at d is =
    let e : 1970 + (d.year - 1970) ≡ d.year = omega (arith, is.from) in
    let inside = year_day_inside d is in
    let f = ap year_days e in
    omega (arith, inside, f)

month_at : (d : Date) (year : ℕ) → IsDate d → year ≡ d.year → d.day - 1 < month_days year ((d.month - 1) + 1)
month_at d year is same =
    let e : (d.month - 1) + 1 ≡ d.month = omega (arith, is.first) in
    let f = ap (month_days year) e in
    let g = ap (λ (y : ℕ). month_days y d.month) same in
    omega (arith, is.within, is.begin, f, g)

date_same : (d e : Date) → d.year ≡ e.year → d.month ≡ e.month → d.day ≡ e.day → d ≡ e
date_same d e year month day =
    ap (λ (y : ℕ). date y d.month d.day) year ∙ ap (λ (m : ℕ). date e.year m d.day) month ∙ ap (λ (x : ℕ). date e.year e.month x) day

day_parts : (d e : Date) → d.year ≡ e.year → year_day d ≡ year_day e → days_of_months d.year (d.month - 1) + (d.day - 1) ≡ days_of_months d.year (e.month - 1) + (e.day - 1)
unfolding year_day
day_parts d e year same = same ∙ ap (λ (y : ℕ). days_of_months y (e.month - 1) + (e.day - 1)) (sym year)

months_alone : (d e : Date) → IsDate d → IsDate e → d.year ≡ e.year → year_day d ≡ year_day e → d ≡ e
months_alone d e is ise year same =
    let p = place_alone (λ k. month_days d.year (k + 1)) (d.month - 1) (e.month - 1) (d.day - 1) (e.day - 1) (day_parts d e year same) (month_at d d.year is refl) (month_at e d.year ise year) in
    date_same d e year (omega (arith, p.0, is.first, ise.first)) (omega (arith, p.1, is.begin, ise.begin))

pub number_alone : (d e : Date) → is_date d ≡ true → is_date e ≡ true → day_number d ≡ day_number e → d ≡ e
number_alone d e isd ise same =
    let a = date_is d isd in
    let b = date_is e ise in
    let p = place_alone (λ k. year_days (1970 + k)) (d.year - 1970) (e.year - 1970) (year_day d) (year_day e) (sym (number_parts d) ∙ same ∙ number_parts e) (year_at d a) (year_at e b) in
    months_alone d e a b (omega (arith, p.0, a.from, b.from)) p.1

-- ---- times of day

gap_now : (instant time : ℕ) → instant % 86400 ≤ time → gap_to instant time ≡ time - instant % 86400
unfolding gap_to
gap_now instant time le = let t : nat_le (instant % 86400) time ≡ true = grind (arith, nat_tests) in rw t refl

gap_later : (instant time : ℕ) → time < instant % 86400 → gap_to instant time ≡ time + 86400 - instant % 86400
unfolding gap_to
gap_later instant time lt = let t : nat_le (instant % 86400) time ≡ false = grind (arith, nat_tests) in rw t refl

-- the rest of a number, by its parts
rest_of : (n q r : ℕ) → n ≡ 86400 * q + r → r < 86400 → n % 86400 ≡ r
rest_of n q r e less = omega arith

pub time_first : (instant time : ℕ) → time < 86400 → ((instant + gap_to instant time) % 86400 ≡ time) × (gap_to instant time < 86400)
time_first instant time less = elim (leb_tells (instant % 86400) time) [
  | inl now ↦ (
      let g = gap_now instant time now.1 in
      (rest_of (instant + gap_to instant time) (instant / 86400) time (omega (arith, g, now.1)) less, (omega (arith, g, less))))
  | inr later ↦ (
      let g = gap_later instant time later.1 in
      (rest_of (instant + gap_to instant time) (instant / 86400 + 1) time (omega (arith, g, later.1)) less, (omega (arith, g, later.1))))
]
