-- Where bytes come from.
use Rattle.std.specs.Prelude.{ℕ, if◌then◌else◌, List, codes, Option}
use Rattle.ground_files.specs.declared.input_files.Source.{Source}
use Rattle.ground_files.specs.declared.input_files.Source.TheVariants.{Standard, File}
use Rattle.ground_files.specs.Workspaces.{is_dash}

-- what is left of a source, by what is left of a stream and of a file
abbrev pub source_remaining : {S F : Type 0} → (S → Option (List ℕ)) → (F → Option (List ℕ)) → Source S F → Option (List ℕ)
source_remaining stream_left file_left (Standard from) = stream_left from
source_remaining stream_left file_left (File from) = file_left from

-- an input's name for people
abbrev pub input_shown : List ℕ → List ℕ
input_shown name = if is_dash name then codes "standard input" else name
