-- The file that the text of a load asks for.
use Rattle.std.specs.Prelude.{◌≡◌, ◌⊎◌, ℕ, ◌<◌, true, false, if◌then◌else◌, length, List, [], Option, Some, None, IsUtf8}
use Rattle.std.specs.Path.{path_parent, path_join}
use Rattle.fsw_outside.specs.Files.{Stored, file_named}
use Rattle.ground_files.specs.Workspaces.{is_dash}
use Rattle.load_texts.specs.declared.fault.LoadFault.{LoadFault}
use Rattle.load_texts.specs.Loaded.{Named, file_asked}
use Rattle.load_texts.specs.Loads.{is_load_text, SaysLoad}
use Rattle.ground_making.specs.declared.making.Making.TheVariants as makings
use Rattle.ground_making.specs.Made.{IsFileOf}
use Rattle.ground_making.specs.Refused.{IsLong, IsNoLoad, IsRefusedAs}

-- a path from a folder on
abbrev pub in_folder : Option (List ℕ) → List ℕ → List ℕ
in_folder None path = path
in_folder (Some folder) path = path_join folder path

-- a path as a text of this name says it: from the text's folder on, and from the current one where the text is standard input
abbrev pub path_beside : List ℕ → List ℕ → List ℕ
path_beside name path = if is_dash name then path else in_folder (path_parent name) path

-- the bytes, among these files, of the file that a text of this name asks for: none where it asks for no file
abbrev pub asked_bytes : List ℕ → List Stored → Option Named → Option (List ℕ)
asked_bytes name files None = Some []
asked_bytes name files (Some asked) = file_named files (path_beside name asked.path)

-- the text of a load, of this name among these files, and the file to be loaded that it says
pub record SaysLoadIn (name : List ℕ) (files : List Stored) (text load : List ℕ) : Type 0 where
  pub named : List ℕ
  pub is_named : asked_bytes name files (file_asked text) ≡ Some named
  pub says : SaysLoad named text load

-- a text, of this name among these files, and its file: one to be loaded, or one of a table
pub record IsFileIn (epoch : Option ℕ) (name : List ℕ) (files : List Stored) (text file : List ℕ) : Type 0 where
  pub load : is_load_text text ≡ true → SaysLoadIn name files text file
  pub table : is_load_text text ≡ false → IsFileOf epoch text file

-- ---- texts of which no file is made

-- the file of a path, among these files, has more bytes than can be loaded
pub record IsTooLarge (path : List ℕ) (files : List Stored) : Type 0 where
  pub bytes : List ℕ
  pub there : file_named files path ≡ Some bytes
  pub large : 65536 < length bytes

-- the file that a text of this name asks for isn't loaded: its name isn't UTF-8, or it is too large
abbrev pub IsUnloaded : List ℕ → List Stored → Named → Type 0
IsUnloaded name files asked = (¬ IsUtf8 asked.path) ⊎ IsTooLarge (path_beside name asked.path) files

-- a text asks for a file that isn't loaded
abbrev pub AsksForUnloaded : List ℕ → List Stored → List ℕ → Type 0
AsksForUnloaded name files text = (asked : Named) × (file_asked text ≡ Some asked) × IsUnloaded name files asked

-- a text and the file that it asks for have this fault
abbrev pub SaysNoLoad : List ℕ → List Stored → List ℕ → Type 0
SaysNoLoad name files text = (named : List ℕ) × (fault : LoadFault) × (asked_bytes name files (file_asked text) ≡ Some named) × IsNoLoad named text fault

-- a text, of this name among these files, of which no file is made
pub record IsNoFileIn (epoch : Option ℕ) (name : List ℕ) (files : List Stored) (text : List ℕ) : Type 0 where
  pub load : is_load_text text ≡ true → IsLong text ⊎ (AsksForUnloaded name files text ⊎ SaysNoLoad name files text)
  pub table : is_load_text text ≡ false → IsRefusedAs makings.Table epoch text
