-- What a verb does to what a workspace holds.
use Rattle.std.specs.Prelude.{◌≡◌, ℕ, true, false, List, Option, Some, option_map, is_some, ◌⊎◌}
use Rattle.fsw_outside.specs.Files.{file_named}
use Rattle.ground_files.specs.Workspaces.{Held, is_dash, input_bytes, input_taken, put_at, files_of}

-- An output was made of an input: what stands in its place `makes` says of what was held before and of the bytes that were read.
pub record MakesOutput (input output : List ℕ) (makes : Held → List ℕ → List ℕ → Type 0) (before : Held) (after : Option Held) : Type 0 where
  pub read : List ℕ
  pub made : List ℕ
  pub is_input : input_bytes input before ≡ Some read
  pub is_made : makes before read made
  pub is_put : after ≡ Some (put_at output made (input_taken input before))

-- No file is another.
abbrev pub KeepsAllFiles : Held → Option Held → Type 0
KeepsAllFiles before after = option_map files_of after ≡ Some before.files

-- No file is another, or that of an output alone is.
abbrev pub KeepsOtherFiles : List ℕ → Held → Option Held → Type 0
KeepsOtherFiles output before after =
    KeepsAllFiles before after ⊎ ((bytes : List ℕ) × (option_map files_of after ≡ Some (put_at output bytes before).files))

-- An output is an input: the two names are one, of a file that is there.
pub record IsOver (output input : List ℕ) (held : Held) : Type 0 where
  pub is_name : is_dash output ≡ false
  pub same : output ≡ input
  pub there : is_some (file_named held.files output) ≡ true
