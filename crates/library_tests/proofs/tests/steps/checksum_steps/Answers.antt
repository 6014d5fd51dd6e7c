use Rattle.std.proofs.Common.{◌≡◌, List, refl}
use Rattle.std.proofs.lemmas.List.Sums.{AllPass-from_list_all}
use Rattle.memory_window.specs.declared.regions.Region.{Region}
use Rattle.cs_slices.specs.declared.segments.Segment.{Segment}
use Rattle.cs_slices.specs.Given.{SegmentsGiven, is_given}
use Rattle.cs_slices.specs.Tables.{blank_segments}
use Rattle.library_tests.proofs.tests.steps.checksum_steps.Goals as goal

blank_is_given : (regions : List Region) (entries : List Segment) → entries ≡ blank_segments → SegmentsGiven regions entries
unfolding SegmentsGiven is_given blank_segments
blank_is_given regions entries blank = rw blank (AllPass-from_list_all (is_given regions) blank_segments refl)

pub step-requires-clause-gives : goal.step-requires-clause-gives
step-requires-clause-gives g c = (blank_is_given _ _ c.blank-eeprom.ensures, blank_is_given _ _ c.blank-memory.ensures)
