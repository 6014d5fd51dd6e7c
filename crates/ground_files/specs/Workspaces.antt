-- Files by name and the standard streams, and what reading and writing does to them.
use Rattle.std.specs.Prelude.{◌≡◌, ℕ, Bool, true, if◌then◌else◌, List, [], ◌∷◌, ◌++◌, Option, Some, option_map, bytes_eq}
use Rattle.fsw_outside.specs.Files.{Stored, file_named}

-- What a workspace holds: its files, what is left of standard input, and what standard output got.
pub record Held : Type 0 where
  pub files : List Stored
  pub input : List ℕ
  pub output : List ℕ

-- Whether a name is `-`, which stands for a standard stream.
abbrev pub is_dash : List ℕ → Bool
is_dash name = bytes_eq name (45 ∷ [])

-- The bytes of an input by its name.
abbrev pub input_bytes : List ℕ → Held → Option (List ℕ)
input_bytes name held = if is_dash name then Some held.input else file_named held.files name

-- Standard input was taken.
abbrev pub without_input : Held → Held
without_input held = record held { input = [] }

-- An input was opened by its name.
abbrev pub input_taken : List ℕ → Held → Held
input_taken name held = record held { input = if is_dash name then [] else held.input }

-- The inputs of these names were opened one after another.
abbrev pub inputs_taken : List (List ℕ) → Held → Held
inputs_taken [] held = held
inputs_taken (name ∷ names) held = inputs_taken names (input_taken name held)

-- Files with one of this name and these bytes, in the place of the one that has the name, or else behind them.
abbrev pub file_put : List ℕ → List ℕ → List Stored → List Stored
file_put name bytes [] = (record { name = name; bytes = bytes }) ∷ []
file_put name bytes (file ∷ files) = if bytes_eq file.name name then (record file { bytes = bytes }) ∷ files
    else file ∷ file_put name bytes files

-- An output with these bytes was settled, by its name: a file is there where it was kept; what went to standard output is there.
abbrev pub settled_at : List ℕ → List ℕ → Bool → Held → Held
settled_at name bytes kept held = record held {
  files = if is_dash name then held.files else if kept then file_put name bytes held.files else held.files;
  output = if is_dash name then held.output ++ bytes else held.output;
}

-- Bytes were put, by the name of an output: into a file, or onto standard output.
abbrev pub put_at : List ℕ → List ℕ → Held → Held
put_at name bytes held = settled_at name bytes true held

-- The files, and what is left of standard input.
abbrev pub files_of : Held → List Stored
files_of held = held.files

abbrev pub input_of : Held → List ℕ
input_of held = held.input

-- Nothing but what standard output got is another.
pub record KeepsFiles (old new : Option Held) : Type 0 where
  pub files : option_map files_of new ≡ option_map files_of old
  pub input : option_map input_of new ≡ option_map input_of old
