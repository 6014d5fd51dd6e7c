-- What the program refuses of files, and how that is joined to what is found in each of them by itself.
use Rattle.std.specs.Prelude.{◌≡◌, ℕ, List, Option, None}
use Rattle.std.specs.List.{AllByRecursion}
use Rattle.memory_window.specs.declared.regions.Region.{Region}
use Rattle.active_tables.specs.Tables.{tables_fault, region_fault}
use Rattle.rehearsal.specs.Files.{first_refusal}
use Rattle.ground_checks.specs.Faults.{fault_of}

-- the program takes these files, and loads their tables: it doesn't end with status 2 before it opens the scenario
abbrev pub AreLoaded : List (List ℕ) → Type 0
AreLoaded files = (first_refusal files ≡ None) × (tables_fault files ≡ None)

-- and memory of these regions gives what they read: it doesn't end with status 2 once it knows the scenario's map
abbrev pub AreLoadedWith : List Region → List (List ℕ) → Type 0
AreLoadedWith regions files = AreLoaded files × (region_fault regions files ≡ None)

-- nothing is found in any of these files
abbrev pub AreFaultless : Option (List Region) → List (List ℕ) → Type 0
AreFaultless map files = AllByRecursion (λ file. fault_of map file ≡ None) files
