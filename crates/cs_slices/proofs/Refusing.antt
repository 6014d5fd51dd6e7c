-- Where no entry is refused, all are given.
use Rattle.std.proofs.Common.{◌≡◌, List, None}
use Rattle.histories.proofs.Firsts.{none_fails}
use Rattle.memory_window.specs.declared.regions.Region.{Region}
use Rattle.cs_slices.specs.Given.{is_given, first_refused, SegmentsGiven}
use Rattle.cs_slices.specs.declared.segments.Segment.{Segment}

pub none_refused : (regions : List Region) (entries : List Segment) → first_refused regions entries ≡ None → SegmentsGiven regions entries
unfolding first_refused SegmentsGiven
none_refused regions entries none = none_fails (is_given regions) entries 1 none
