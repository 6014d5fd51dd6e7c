-- Which checks of a watch are changed for a name, and at which of them an entry acts.
use Rattle.std.specs.Prelude.{ℕ, ◌-◌, ◌==◌, nat_le, Bool, false, not, ◌&&◌, if◌then◌else◌, List, [], ◌∷◌, ◌++◌, length, drop, filter_map, find, Option, Some, None, option_map, bytes_eq}
use Rattle.std.specs.List.{after_last, list_all, list_any}
use Rattle.histories.specs.Words.{along, last_or}
use Rattle.packet_forms.specs.declared.name.Counter.{Counter}

-- Whether two names are the same.
unfoldable pub is_same : List ℕ → List ℕ → Bool
is_same a b = bytes_eq a b

-- The counter of a name among these: the first of the name counts.
unfoldable pub counter_in : List Counter → List ℕ → Option ℕ
counter_in counters name = option_map (λ c. c.value) (find (λ c. is_same c.name name) counters)

-- The last counter that a name had in these checks, 0 where it had none.
unfoldable pub last_counter : List ℕ → List (List Counter) → ℕ
last_counter name checks = last_or 0 (filter_map (λ counters. counter_in counters name) checks)

-- Whether there is a counter and it differs from the last one.
abbrev pub differs : Option ℕ → ℕ → Bool
differs None last = false
differs (Some value) last = not (value == last)

-- Which of these checks are changed for a name.
unfoldable pub changes : List ℕ → List (List Counter) → List Bool
changes name checks = along (λ earlier counters. differs (counter_in counters name) (last_counter name earlier)) checks

-- The last n of these checks exist and are unchanged.
unfoldable pub is_still : ℕ → List Bool → Bool
is_still n changed = nat_le n (length changed) && list_all not (drop (length changed - n) changed)

-- At some check of these, the last n up to it exist and are unchanged.
unfoldable pub was_still : ℕ → List Bool → Bool
was_still n changed = list_any (λ b. b) (along (λ earlier this. is_still n (earlier ++ this ∷ [])) changed)

-- An entry with the cycle count n acts at the first check up to which the last n exist and are unchanged.
unfoldable pub acts : ℕ → List Bool → Bool → Bool
acts n earlier this = is_still n (earlier ++ this ∷ []) && not (was_still n earlier)

-- Whether it acts at the last of these checks, and whether it acted at any of them.
unfoldable pub acts_now : ℕ → List Bool → Bool
acts_now n changed = last_or false (along (acts n) changed)

unfoldable pub has_acted : ℕ → List Bool → Bool
has_acted n changed = list_any (λ b. b) (along (acts n) changed)

-- How many checks there are behind the last changed one, or at all where none is changed.
unfoldable pub unchanged_since : List Bool → ℕ
unchanged_since changed = length (after_last (λ b. b) changed)

-- The countdown behind these checks: 0 where the entry acted, else its cycle count less the checks since the last changed one.
unfoldable pub countdown_of : ℕ → List Bool → ℕ
countdown_of n changed = if has_acted n changed then 0 else n - unchanged_since changed
