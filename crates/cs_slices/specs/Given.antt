-- Entries whose bytes a window gives.
use Rattle.std.specs.Prelude.{ℕ, ◌==◌, ◌||◌, Bool, not, List, Option}
use Rattle.std.specs.List.{AllPass, position_from}
use Rattle.memory_window.specs.declared.regions.Region.{Region}
use Rattle.memory_window.specs.Access.{gives_bytes}
use Rattle.cs_slices.specs.declared.segments.Segment.{Segment}

-- Whether an entry is empty, or all its bytes are given.
unfoldable pub is_given : List Region → Segment → Bool
is_given regions s = (s.state == 0) || gives_bytes regions s.start s.len

-- The first of these entries, from 1, that isn't given.
unfoldable pub first_refused : List Region → List Segment → Option ℕ
first_refused regions entries = position_from (λ s. not (is_given regions s)) 1 entries

-- All entries of a table are given.
unfoldable pub SegmentsGiven : List Region → List Segment → Type 0
SegmentsGiven regions entries = AllPass (is_given regions) entries
