-- The line of a command by its place, and its bytes among those of the whole text.
use Rattle.std.proofs.Common.{◌≡◌, ℕ, ◌+◌, ◌-◌, Bool, true, false, List, [], ◌∷◌, ◌++◌, Option, Some, None, refl, ap, sym, ◌∙◌, append_assoc}
use Rattle.std.specs.Prelude.{◌==◌, codes, Result, Ok, Err}
use Rattle.std.proofs.lemmas.Slice.Eq.{bytes_eq-Decides}
use Rattle.row_forms.specs.declared.field.Field.{Field}
use Rattle.telecommands.specs.declared.command.Command.{Command}
use Rattle.table_texts.specs.declared.fault.LineFault.{LineFault}
use Rattle.table_texts.specs.Lines.{Numbered}
use Rattle.table_texts.specs.Endings.{is_end}
use Rattle.table_texts.specs.Sequences.{item_said, then_item, sequence_said}
use Rattle.table_texts.proofs.SequenceLemmas.{sequence_line}
use Rattle.entry_lines.specs.Words.{is_first}
use Rattle.entry_lines.specs.Found.{line_of_command}
use Rattle.entry_lines.specs.Commands.{item_bytes, bytes_before, SaysCommand}
use Rattle.entry_lines.proofs.FoundLemmas.{command_none, command_other, command_here, command_later}
use Rattle.entry_lines.proofs.SaidLemmas.{front_parts, some_line}

-- a line that begins with `command` doesn't end the text
command_goes_on : (ws : List (List ℕ)) → is_first (codes "command") ws ≡ true → is_end ws ≡ false
command_goes_on [] e = absurd (cc)
command_goes_on (w ∷ ws) e = let same : w ≡ codes "command" = (bytes_eq-Decides w (codes "command")).0 e in rw same refl

before_first : (epoch : Option ℕ) (cs : List Command) (fs : List Field) (place : ℕ) (x : Numbered) (more : List Numbered) → (place == 1) ≡ true → bytes_before epoch cs fs place (x ∷ more) ≡ []
unfolding bytes_before
before_first epoch cs fs place x more e = rw e refl

before_later : (epoch : Option ℕ) (cs : List Command) (fs : List Field) (place : ℕ) (x : Numbered) (more : List Numbered) → (place == 1) ≡ false → bytes_before epoch cs fs place (x ∷ more) ≡ item_bytes (item_said epoch cs fs x.words) ++ bytes_before epoch cs fs (place - 1) more
unfolding bytes_before
before_later epoch cs fs place x more e = rw e refl

abbrev Says : Option ℕ → List Command → List Field → Numbered → List Numbered → Type 0
Says epoch cs fs line lines = (place n : ℕ) (bytes : List ℕ) → sequence_said epoch cs fs n lines ≡ Ok bytes → line_of_command place lines ≡ Some line → SaysCommand epoch cs fs place lines bytes line

item_says : (epoch : Option ℕ) (cs : List Command) (fs : List Field) (place : ℕ) (x line : Numbered) (more : List Numbered) (bytes : List ℕ) → is_first (codes "command") x.words ≡ true → Says epoch cs fs line more → (r : Result (List ℕ) LineFault) → item_said epoch cs fs x.words ≡ r → then_item x.number r (sequence_said epoch cs fs (x.number + 1) more) ≡ Ok bytes → (b : Bool) → (place == 1) ≡ b → line_of_command place (x ∷ more) ≡ Some line → SaysCommand epoch cs fs place (x ∷ more) bytes line
item_says epoch cs fs place x line more bytes first behind (Err fault) said all b f found = absurd (cc)
item_says epoch cs fs place x line more bytes first behind (Ok item) said all true f found =
    let parts = front_parts item bytes (sequence_said epoch cs fs (x.number + 1) more) all in
    let same : x ≡ line = some_line x line (sym (command_here place (x ∷ more) more x refl first f) ∙ found) in
    record {
      item = item;
      rest = parts.0;
      said = ap (λ (y : Numbered). item_said epoch cs fs y.words) (sym same) ∙ said;
      whole = parts.2 ∙ ap (λ (xs : List ℕ). xs ++ (item ++ parts.0)) (sym (before_first epoch cs fs place x more f));
    }
item_says epoch cs fs place x line more bytes first behind (Ok item) said all false f found =
    let parts = front_parts item bytes (sequence_said epoch cs fs (x.number + 1) more) all in
    let s = behind (place - 1) (x.number + 1) parts.0 parts.1 (sym (command_later place (x ∷ more) more x refl first f) ∙ found) in
    let front : bytes_before epoch cs fs place (x ∷ more) ≡ item ++ bytes_before epoch cs fs (place - 1) more = before_later epoch cs fs place x more f ∙ ap (λ (r : Result (List ℕ) LineFault). item_bytes r ++ bytes_before epoch cs fs (place - 1) more) said in
    record {
      item = s.item;
      rest = s.rest;
      said = s.said;
      whole =
          parts.2 ∙ ap (λ (xs : List ℕ). item ++ xs) s.whole
          ∙ sym (append_assoc item (bytes_before epoch cs fs (place - 1) more) (s.item ++ s.rest))
          ∙ ap (λ (xs : List ℕ). xs ++ (s.item ++ s.rest)) (sym front);
    }

first_says : (epoch : Option ℕ) (cs : List Command) (fs : List Field) (place n : ℕ) (x line : Numbered) (more : List Numbered) (bytes : List ℕ) → Says epoch cs fs line more → (b : Bool) → is_first (codes "command") x.words ≡ b → sequence_said epoch cs fs n (x ∷ more) ≡ Ok bytes → line_of_command place (x ∷ more) ≡ Some line → SaysCommand epoch cs fs place (x ∷ more) bytes line
first_says epoch cs fs place n x line more bytes behind true first said found =
    item_says epoch cs fs place x line more bytes first behind (item_said epoch cs fs x.words) refl (sym (sequence_line epoch cs fs n x.number x.words (x ∷ more) more refl (command_goes_on x.words first)) ∙ said) (place == 1) refl found
first_says epoch cs fs place n x line more bytes behind false first said found =
    absurd (let wrong : None ≡ Some line = sym (command_other place (x ∷ more) more x refl first) ∙ found in cc)

pub commands_say : (epoch : Option ℕ) (cs : List Command) (fs : List Field) (line : Numbered) → (lines : List Numbered) → Says epoch cs fs line lines
commands_say epoch cs fs line [] = λ place n bytes said found. absurd (let wrong : None ≡ Some line = sym (command_none place [] refl) ∙ found in cc)
commands_say epoch cs fs line (x ∷ more) = λ place n bytes said found. first_says epoch cs fs place n x line more bytes (commands_say epoch cs fs line more) (is_first (codes "command") x.words) refl said found
