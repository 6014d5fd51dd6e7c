use Rattle.std.proofs.Common.{◌≡◌, List, [], ◌∷◌, refl}
use Rattle.std.specs.Prelude.{replicate}
use Rattle.std.specs.List.{AllPass}
use Rattle.std.proofs.lemmas.List.Elements.{All-replicate}
use Rattle.std.proofs.lemmas.List.Sums.{AllPass-from_list_all}
use Rattle.memory_window.specs.declared.regions.Region.{Region}
use Rattle.md_dwell.specs.Given.{TablesGiven, is_given}
use Rattle.md_dwell.specs.Tables.{DwellTable, blank_entry, blank_table}
use Rattle.library_tests.proofs.tests.steps.memory_dwell_steps.Goals as goal

blank_are_given : (regions : List Region) (a b c d : DwellTable) → a ≡ blank_table → b ≡ blank_table → c ≡ blank_table → d ≡ blank_table → TablesGiven regions (a ∷ b ∷ c ∷ d ∷ [])
unfolding TablesGiven is_given blank_table
blank_are_given regions a b c d ea eb ec ed =
    rw (ea, eb, ec, ed)
    (All-replicate (λ (t : DwellTable). AllPass (is_given regions) t.entries) 4 blank_table (AllPass-from_list_all (is_given regions) (replicate 25 blank_entry) refl))

pub step-requires-clause-gives : goal.step-requires-clause-gives
step-requires-clause-gives g c =
    c.start-begun.ensures.given _ (blank_are_given _ _ _ _ _ c.blank.ensures c.blank-2.ensures c.blank-3.ensures c.blank-4.ensures)
