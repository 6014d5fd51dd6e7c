-- Lemmas on what was found in a file.
use Rattle.std.proofs.Common.{◌≡◌, ◌≢◌, ℕ, suc, ◌<◌, ◌≤◌, nat_lt, true, false, List, [], ◌∷◌, length, Option, Some, None, sym, ◌∙◌, refl, arith}
use Rattle.std.specs.Prelude.{◌==◌}
use Rattle.std.proofs.lemmas.Bool.Decides.{nat_tests}
use Rattle.memory_window.specs.declared.regions.Region.{Region}
use Rattle.table_files.specs.declared.fault.FileFault.{FileFault}
use Rattle.table_files.specs.Headers.{file_fault_of, kind_of_file}
use Rattle.active_tables.specs.Tables.{entry_fault, entry_fault_in}
use Rattle.ground_faults.specs.Firsts.{first_if_any}
use Rattle.ground_checks.specs.declared.finding.FoundFault.{FoundFault}
use Rattle.ground_checks.specs.declared.finding.FoundFault.TheVariants as faults
use Rattle.ground_checks.specs.Faults.{read_refused, fault_by, fault_of}
use Rattle.ground_checks.proofs.FaultLemmas.{none_said, none_read}

-- nothing was found where the list is empty
pub nothing_found : (found : List FoundFault) (fault : Option FoundFault) → first_if_any found ≡ fault → (length found == 0) ≡ true → fault ≡ None
nothing_found [] fault e is = sym e
nothing_found (x ∷ more) fault e is = absurd (let more_than_none : (suc (length more) == 0) ≡ true = is in grind (arith, nat_tests))

-- something was found where it isn't
pub something_found : (found : List FoundFault) (fault : Option FoundFault) → first_if_any found ≡ fault → (length found == 0) ≡ false → fault ≢ None
something_found [] fault e is = absurd (cc)
something_found (x ∷ more) fault e is = λ none. absurd (let k : Some x ≡ None = e ∙ none in cc)

-- ---- the first fault of a file

pub long_first : (map : Option (List Region)) (file : List ℕ) (found : List FoundFault) → 65700 < length file → found ≡ faults.Long ∷ [] → first_if_any found ≡ fault_of map file
unfolding fault_of
long_first map file found long is = let b : nat_lt 65700 (length file) ≡ true = grind (arith, nat_tests) in rw (b, is) refl

short_by : (file : List ℕ) → length file ≤ 65700 → nat_lt 65700 (length file) ≡ false
short_by file short = grind (arith, nat_tests)

pub table_first : (map : Option (List Region)) (file : List ℕ) (found : List FoundFault) → length file ≤ 65700 → file_fault_of file ≡ None
    → first_if_any found ≡ fault_by None (entry_fault_in file) (read_refused map file) → first_if_any found ≡ fault_of map file
unfolding fault_of
table_first map file found short well is = rw (short_by file short, well) is

pub load_first : (map : Option (List Region)) (file : List ℕ) (found : List FoundFault) → length file ≤ 65700 → file_fault_of file ≡ None → kind_of_file file ≡ None
    → found ≡ [] → first_if_any found ≡ fault_of map file
unfolding fault_of
load_first map file found short well kind is =
    rw (short_by file short, well, none_said entry_fault file kind, none_read map file kind, is) refl

pub error_first : (map : Option (List Region)) (file : List ℕ) (found : List FoundFault) (fault : FileFault) → length file ≤ 65700 → file_fault_of file ≡ Some fault
    → found ≡ faults.Headers fault ∷ [] → first_if_any found ≡ fault_of map file
unfolding fault_of
error_first map file found fault short header is = rw (short_by file short, header, is) refl
