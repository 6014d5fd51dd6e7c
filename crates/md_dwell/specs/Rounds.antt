-- The rounds of a dwell stream, by the numbers of wakeups. A stream has its list, the wakeup in which it started, and the image of each wakeup.
use Rattle.std.specs.Prelude.{ℕ, ◌+◌, ◌-◌, ◌*◌, ◌/◌, ◌%◌, ◌==◌, Bool, ◌&&◌, nat_le, nat_lt, if◌then◌else◌, List, [], length, take, slice_index_or, flat_map, Option, Some, None}
use Rattle.histories.specs.Words.{along}
use Rattle.memory_window.specs.Memory.{Memory}
use Rattle.md_dwell.specs.Lists.{list_of, delays, delays_to_last}
use Rattle.md_dwell.specs.Reading.{entry_bytes}
use Rattle.md_dwell.specs.declared.tables.DwellEntry.{DwellEntry}

-- Memory without regions.
abbrev pub no_memory : Memory
no_memory = record { areas = []; guarded = [] }

-- The image of a wakeup.
abbrev pub image_at : List Memory → ℕ → Memory
image_at images k = slice_index_or images k no_memory

-- The bytes of the first n entries of a round that begins at wakeup `from`: each entry is read as many wakeups later as the entries before it delay.
unfoldable pub gathered : List DwellEntry → List Memory → ℕ → ℕ → List ℕ
gathered list images from n = flat_map (λ bytes. bytes) (along (λ before e. entry_bytes (image_at images (from + delays before)) e) (take n list))

-- The bytes of round r of a stream that started at wakeup `since`.
unfoldable pub round_bytes : List DwellEntry → ℕ → List Memory → ℕ → List ℕ
round_bytes list since images r = gathered list images (since + r * delays list) (length list)

-- Whether the last entry of a round is read at wakeup k.
unfoldable pub is_due : List DwellEntry → ℕ → ℕ → Bool
is_due list since k = nat_le (since + delays_to_last list) k && ((k - (since + delays_to_last list)) % delays list == 0)

-- The bytes of the round whose last entry is read at the last wakeup, where there is one.
unfoldable pub round_at : List DwellEntry → ℕ → List Memory → Option (List ℕ)
round_at list since images =
    if is_due list since (length images - 1)
    then Some (round_bytes list since images ((length images - 1 - (since + delays_to_last list)) / delays list))
    else None

-- What a table gives at the last wakeup: nothing where it isn't enabled or its list has no delay.
unfoldable pub dwell_at : Bool → List DwellEntry → ℕ → List Memory → Option (List ℕ)
dwell_at on entries since images = if on && nat_lt 0 (delays (list_of entries)) then round_at (list_of entries) since images else None
