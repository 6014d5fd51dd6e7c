-- The slices that are read, one a wakeup at most.
use Rattle.std.specs.Prelude.{ℕ, ◌+◌, ◌-◌, ◌%◌, ◌==◌, min, Bool, false, not, ◌&&◌, if◌then◌else◌, List, [], map, take, drop, find, Option, option_map, Result, Ok, Err}
use Rattle.std.specs.List.{list_any, range_with_len}
use Rattle.histories.specs.Words.{last_or}
use Rattle.memory_window.specs.Memory.{Memory}
use Rattle.memory_window.specs.Access.{bytes_of}
use Rattle.memory_window.specs.declared.access.AccessFault.{AccessFault}
use Rattle.cs_slices.specs.Tables.{TablePair, entry_in}
use Rattle.cs_slices.specs.Happenings.{Slice, Happening, slices_among, since_slice}
use Rattle.cs_slices.specs.Orders.{takes_part, breaks_off}
use Rattle.cs_slices.specs.declared.segments.Segment.{Segment}

-- The place at which the search begins after a slice: its own, or the next in the ring where it ended at the entry's end.
abbrev pub place_behind : Slice → ℕ
place_behind s = if s.ends then (s.place + 1) % 32 else s.place

-- The current place: the first of all before any slice.
unfoldable pub current_place : List Slice → ℕ
current_place slices = last_or 0 (map place_behind slices)

-- Whether a pass that has come to this slice goes on at a place, by what happened since: the slice is of the place, doesn't end at the
-- entry's end, no command since switched CS, the table or the entry off, and the table didn't become active since.
abbrev pub goes_on : ℕ → List Happening → Slice → Bool
goes_on place since s = (s.place == place) && not s.ends && not (list_any (breaks_off place) since)

-- Whether a pass at a place has begun and goes on.
unfoldable pub has_begun : ℕ → List Slice → List Happening → Bool
has_begun place slices since = last_or false (map (goes_on place since) slices)

-- Where the next slice of a place begins: behind the last slice, where its pass goes on, or else at the entry's first byte.
unfoldable pub offset_at : ℕ → List Slice → List Happening → ℕ
offset_at place slices since = last_or 0 (map (λ s. if goes_on place since s then s.till else 0) slices)

-- The bytes of an entry, none where the image doesn't give them.
abbrev pub bytes_or_none : Result (List ℕ) AccessFault → List ℕ
bytes_or_none (Ok bytes) = bytes
bytes_or_none (Err fault) = []

unfoldable pub entry_bytes : Memory → Segment → List ℕ
entry_bytes image s = bytes_or_none (bytes_of image s.start s.len)

-- How many bytes a slice has that begins at an offset of an entry: 1,024, or what remains where that is less.
abbrev pub slice_size : Segment → ℕ → ℕ
slice_size s from = min 1024 (s.len - from)

-- The slice of an entry that begins at an offset.
unfoldable pub slice_from : Memory → Segment → ℕ → ℕ → Slice
slice_from image s place from =
    record {
      place = place;
      from = from;
      till = from + slice_size s from;
      ends = (from + slice_size s from) == s.len;
      bytes = take (slice_size s from) (drop from (entry_bytes image s));
    }

-- All 32 places, from one on and round again.
unfoldable pub ring_from : ℕ → List ℕ
ring_from place = map (λ k. (place + k) % 32) (range_with_len 0 32)

-- The next slice: of the first place that takes part, from the current place on; none where no place does.
unfoldable pub next_slice : TablePair → List Happening → Memory → Option Slice
next_slice tables happened image =
    option_map (λ place. slice_from image (entry_in tables place) place (offset_at place (slices_among happened) (since_slice happened))) (find (takes_part tables happened) (ring_from (current_place (slices_among happened))))
