-- Lists of files, in the order of adding.
use Rattle.std.specs.Prelude.{◌≡◌, ℕ, zero, suc, ◌<◌, ◌≤◌, ◌-◌, List, [], length, map, filter, All, Option, Some, None, slice_get, slice_index_or}
use Rattle.table_files.specs.declared.fault.FileFault.{FileFault}
use Rattle.table_files.specs.declared.fault.AddFault.{AddFault}
use Rattle.table_files.specs.declared.fault.AddFault.TheVariants.{File, NoMemory}
use Rattle.table_files.specs.declared.kinds.TableKind.{TableKind}
use Rattle.table_files.specs.Headers.{IsFile, kind_of_file, payload_of_file, address_of_file, is_load}

-- an answer that refuses a file with this fault, if any: the fault itself, or want of memory where there is none
abbrev pub Refuses : Option FileFault → AddFault → Type 0
Refuses fault (File met) = fault ≡ Some met
Refuses fault NoMemory = fault ≡ None

-- the file of a number, counted from 1
abbrev pub file_at : List (List ℕ) → ℕ → List ℕ
file_at files n = slice_index_or files (n - 1) []

-- what holds of the files that are held: none has a fault, and there are at most 100
pub record AreFiles (files : List (List ℕ)) : Type 0 where
  pub accepted : All IsFile files
  pub few : length files ≤ 100

-- address and bytes of a load file
abbrev pub load_in : List ℕ → ℕ × List ℕ
load_in file = (address_of_file file, payload_of_file file)

-- a file has no fault, and this is the kind of its table: none where it is to be loaded
pub record IsKnownAs (file : List ℕ) (kind : Option TableKind) : Type 0 where
  pub accepted : IsFile file
  pub kind_is : kind ≡ kind_of_file file

-- the load files among the files, each by its address and its bytes, in the order of adding
unfoldable pub loads_of : List (List ℕ) → List (ℕ × List ℕ)
loads_of files = map load_in (filter is_load files)

-- the n-th of a list, counted from 1, where there is one
abbrev pub nth : {A : Type 0} → List A → ℕ → Option A
nth files zero = None
nth files (suc i) = slice_get files i

-- the kind of a file that is there
abbrev pub kind_in : Option (List ℕ) → Option TableKind
kind_in None = None
kind_in (Some file) = kind_of_file file

-- the kind of the table file of a number, counted from 1; none where no table file has it
unfoldable pub kind_at : List (List ℕ) → ℕ → Option TableKind
kind_at files n = kind_in (nth files n)

-- a load file has 1 to 65,536 bytes
abbrev pub IsLoadable : ℕ × List ℕ → Type 0
IsLoadable load = (0 < length load.1) × (length load.1 ≤ 65536)
