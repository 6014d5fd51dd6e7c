-- Passes over an entry, their checks, baselines and miscompares.
use Rattle.std.specs.Prelude.{ℕ, ◌%◌, ◌^◌, ◌==◌, Bool, false, not, ◌&&◌, if◌then◌else◌, List, [], ◌∷◌, ◌++◌, filter, filter_map, flat_map, count_by, Option, Some, None}
use Rattle.histories.specs.Words.{along, from_last}
use Rattle.packet_forms.specs.Crc.{crc_of}
use Rattle.cs_slices.specs.Happenings.{Slice, Happening, slices_among, since_slice, slices_since}
use Rattle.cs_slices.specs.Happenings.Happening.{Ordered, Read, Renewed}
use Rattle.cs_slices.specs.Orders.{table_of}
use Rattle.cs_slices.specs.Slices.{current_place, has_begun}

-- The bytes of the pass to which a place's last slice belongs: those of the place's slices from the last on that begins at the entry's first byte.
unfoldable pub pass_bytes : ℕ → List Slice → List ℕ
pass_bytes place slices = flat_map (λ s. s.bytes) (from_last (λ s. s.from == 0) (filter (λ s. s.place == place) slices))

-- The check of the pass of a place that a slice makes whole, behind earlier slices.
abbrev pub check_at : ℕ → List Slice → Slice → Option ℕ
check_at place earlier s = if (s.place == place) && s.ends then Some (crc_of 0 (pass_bytes place (earlier ++ s ∷ []))) else None

-- The checks of all whole passes of a place, in order.
unfoldable pub checks : ℕ → List Slice → List ℕ
checks place slices = filter_map (λ check. check) (along (check_at place) slices)

-- The first of these numbers.
abbrev pub first_of : List ℕ → Option ℕ
first_of [] = None
first_of (check ∷ later) = Some check

-- The baseline of a place among these slices: the check of its first whole pass.
unfoldable pub baseline : ℕ → List Slice → Option ℕ
baseline place slices = first_of (checks place slices)

-- Whether a check differs from a baseline, where there is one.
abbrev pub differs : Option ℕ → ℕ → Bool
differs None check = false
differs (Some base) check = not (base == check)

-- Whether a slice behind these makes a later pass of its place whole that differs from the baseline.
unfoldable pub miscompares : List Slice → Slice → Bool
miscompares earlier s = s.ends && differs (baseline s.place earlier) (crc_of 0 (pass_bytes s.place (earlier ++ s ∷ [])))

-- The baseline of a place: that among the slices since its table last became active.
abbrev pub baseline_at : ℕ → List Happening → Option ℕ
baseline_at place happened = baseline place (slices_since (table_of place) happened)

-- Whether a slice makes a pass whole that differs from the baseline of its place.
abbrev pub differs_behind : List Happening → Slice → Bool
differs_behind happened s = miscompares (slices_since (table_of s.place) happened) s

-- Whether this is a miscompare of a table.
abbrev pub is_miscompare : ℕ → List Happening → Happening → Bool
is_miscompare table earlier (Ordered order) = false
is_miscompare table earlier (Read s) = (table_of s.place == table) && differs_behind earlier s
is_miscompare table earlier (Renewed n) = false

-- The miscompares of a table, modulo 65,536.
unfoldable pub miscompare_count : ℕ → List Happening → ℕ
miscompare_count table happened = count_by (λ found. found) (along (is_miscompare table) happened) % 65536

-- The whole passes, modulo 2^32.
unfoldable pub pass_count : List Slice → ℕ
pass_count slices = count_by (λ s. s.ends) slices % 2 ^ 32

-- The bytes of the pass that has begun at the current place, none where none has.
unfoldable pub begun_bytes : List Happening → List ℕ
begun_bytes happened =
    let place = current_place (slices_among happened) in
    if has_begun place (slices_among happened) (since_slice happened) then pass_bytes place (slices_since (table_of place) happened) else []
