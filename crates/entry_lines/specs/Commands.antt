-- A command of a sequence's text among all of them.
use Rattle.std.specs.Prelude.{◌≡◌, ℕ, ◌-◌, ◌==◌, if◌then◌else◌, List, [], ◌∷◌, ◌++◌, Option, Result, Ok, Err}
use Rattle.row_forms.specs.declared.field.Field.{Field}
use Rattle.telecommands.specs.declared.command.Command.{Command}
use Rattle.table_texts.specs.declared.fault.LineFault.{LineFault}
use Rattle.table_texts.specs.Lines.{Numbered}
use Rattle.table_texts.specs.Sequences.{item_said}

abbrev pub item_bytes : Result (List ℕ) LineFault → List ℕ
item_bytes (Ok bytes) = bytes
item_bytes (Err fault) = []

-- the bytes of the lines in front of the one at a place, from 1
unfoldable pub bytes_before : Option ℕ → List Command → List Field → ℕ → List Numbered → List ℕ
bytes_before epoch cs fs place [] = []
bytes_before epoch cs fs place (line ∷ more) =
    if place == 1 then [] else item_bytes (item_said epoch cs fs line.words) ++ bytes_before epoch cs fs (place - 1) more

-- the words of a line say a command, and its bytes stand behind those of the lines in front of that place
pub record SaysCommand (epoch : Option ℕ) (cs : List Command) (fs : List Field) (place : ℕ) (lines : List Numbered) (bytes : List ℕ) (line : Numbered) : Type 0 where
  pub item : List ℕ
  pub rest : List ℕ
  pub said : item_said epoch cs fs line.words ≡ Ok item
  pub whole : bytes ≡ bytes_before epoch cs fs place lines ++ (item ++ rest)
