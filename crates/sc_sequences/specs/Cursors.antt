-- The cursors of the sequences, by their places.
use Rattle.std.specs.Prelude.{◌≡◌, ◌<◌, ◌≤◌, ℕ, zero, suc, ◌+◌, ◌*◌, ◌/◌, ◌%◌, ◌==◌, min, false, if◌then◌else◌, List, map, slice_index_or, Option, Some, None}
use Rattle.std.specs.List.{range_with_len}
use Rattle.sc_sequences.specs.declared.cursors.Cursor.{Cursor}
use Rattle.sc_sequences.specs.declared.cursors.Due.{Due}

-- The cursor in a place.
abbrev pub cursor_in : List Cursor → ℕ → Cursor
cursor_in cursors place = slice_index_or cursors place (record { next = None; at = 0; enabled = false })

-- The times of the next commands.
abbrev pub next_times : List Cursor → List (Option ℕ)
next_times cursors = map (λ c. c.next) cursors

-- The time in a place.
abbrev pub time_in : List (Option ℕ) → ℕ → Option ℕ
time_in times place = slice_index_or times place None

-- A time and its place are the soonest of the first n times: no earlier time is among them, and no equal one in an earlier place.
pub record IsSoonest (times : List (Option ℕ)) (n : ℕ) (due : Due) : Type 0 where
  pub within : due.place < n
  pub here : time_in times due.place ≡ Some due.time
  pub least : (k t : ℕ) → k < n → time_in times k ≡ Some t → due.time ≤ t
  pub first : (k t : ℕ) → k < due.place → time_in times k ≡ Some t → due.time < t

-- The soonest of the first n times is this, or there is none.
abbrev pub SoonestOf : List (Option ℕ) → ℕ → Option Due → Type 0
SoonestOf times n None = (k : ℕ) → k < n → time_in times k ≡ None
SoonestOf times n (Some due) = IsSoonest times n due

-- A time and its place in one number: the earlier time has the lower one, and of equal times the earlier place. Where there is no time it is
-- over all others.
abbrev pub no_key : ℕ
no_key = 18446744073709551615

abbrev pub key_of : ℕ → Option ℕ → ℕ
key_of place None = no_key
key_of place (Some time) = 128 * time + place

abbrev pub due_of : ℕ → Option Due
due_of key = if key == no_key then None else Some (record { time = key / 128; place = key % 128 })

-- The lowest key of so many places from one on, and that of each group of six places.
unfoldable pub lowest_from : List (Option ℕ) → ℕ → ℕ → ℕ
lowest_from times from zero = no_key
lowest_from times from (suc n) = min (lowest_from times from n) (key_of (from + n) (time_in times (from + n)))

unfoldable pub lowest_each : List (Option ℕ) → List ℕ
lowest_each times = map (λ group. lowest_from times (6 * group) 6) (range_with_len 0 11)

-- The times are below 2^33.
abbrev pub AreSmall : List (Option ℕ) → Type 0
AreSmall times = (k t : ℕ) → time_in times k ≡ Some t → t < 8589934592
