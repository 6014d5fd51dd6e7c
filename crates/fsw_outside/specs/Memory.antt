-- What the shelf and the sink over memory are made of.
use Rattle.std.specs.Prelude.{◌≡◌, ℕ, ◌<◌, length, Some, IfSome, ◌-◌, ◌^◌, Bool, List, [], map, drop, unwrap_or, Option, option_map, option_and_then, nat_lt, slice_get, string_bytes, ◌==◌}
use Rattle.std.specs.List.{list_any}
use Rattle.std.specs.Option.{ForSome}
use Rattle.fsw_outside.specs.Files.{Stored, Content, file_named}
use Rattle.fsw_outside.specs.declared.mem_shelf.StoredFile.{StoredFile}
use Rattle.fsw_outside.specs.declared.mem_shelf.Place.{Place}

-- Whether a count in a u64 isn't at its last value.
abbrev pub can_rise : ℕ → Bool
can_rise count = nat_lt count (2 ^ 64 - 1)

-- Whether the call of this number is one of those that fail.
abbrev pub is_listed : List ℕ → ℕ → Bool
is_listed fails call = list_any (λ number. number == call) fails

-- A file that is kept, as its name's bytes and its own.
abbrev pub stored_of : StoredFile → Stored
stored_of file = record { name = string_bytes file.name; bytes = file.bytes.items }

-- All files that are kept.
abbrev pub stored_files : List StoredFile → List Stored
stored_files files = map stored_of files

-- The name of the file at a place.
abbrev pub name_at : List StoredFile → Option ℕ → Option (List ℕ)
name_at files found = option_and_then (λ place. option_map (λ file. string_bytes file.name) (slice_get files place)) found

-- The bytes of the file at a place.
abbrev pub bytes_at : List StoredFile → Option ℕ → Option (List ℕ)
bytes_at files found = option_and_then (λ place. option_map (λ file. file.bytes.items) (slice_get files place)) found

-- What is left of the file that is read, from the place on where reading stopped.
abbrev pub rest_at : List StoredFile → Option Place → Option (List ℕ)
rest_at files reading = option_and_then (λ place. option_map (λ file. drop place.at file.bytes.items) (slice_get files place.file)) reading

-- What a shelf with these files tells, by what it reads, how many openings there were and the place of the last.
abbrev pub content_with : List StoredFile → Option Place → ℕ → Option ℕ → Content
content_with files reading openings last = record {
  files = stored_files files;
  rest = unwrap_or (rest_at files reading) [];
  openings = openings;
  name = name_at files last;
}

-- The place of the first file of this name, none where there is no such file.
pub record IsPlaceOf (files : List StoredFile) (asked : List ℕ) (found : Option ℕ) : Type 0 where
  pub same : file_named (stored_files files) asked ≡ bytes_at files found
  pub named : IfSome found (λ _. name_at files found ≡ Some asked)
  pub within : ForSome found (λ place. place < length files)
