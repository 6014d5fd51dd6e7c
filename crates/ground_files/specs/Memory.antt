-- What a workspace over memory holds.
use Rattle.std.specs.Prelude.{ℕ, suc, if◌then◌else◌, List, [], ◌∷◌, map, Option, Some, None, option_map, bytes_eq, string_bytes}
use Rattle.fsw_outside.specs.Files.{Stored}
use Rattle.ground_files.specs.Workspaces.{Held}
use Rattle.ground_files.specs.declared.memory_files.KeptFile.{KeptFile}
use Rattle.ground_files.specs.declared.memory_files.MemoryFiles.{MemoryFiles}

-- A file, as its name's bytes and its own.
abbrev pub kept_of : KeptFile → Stored
kept_of file = record { name = string_bytes file.name; bytes = file.bytes.items }

-- All files.
abbrev pub stored_of : List KeptFile → List Stored
stored_of files = map kept_of files

-- All that it holds.
abbrev pub held_in : MemoryFiles → Held
held_in files = record {
  files = stored_of files.files.items;
  input = files.input.items;
  output = files.output.items;
}

-- The place of the first file of this name.
abbrev pub first_place : List KeptFile → List ℕ → Option ℕ
first_place [] name = None
first_place (file ∷ files) name = if bytes_eq (string_bytes file.name) name then Some 0 else option_map suc (first_place files name)
