-- Lemmas on logs that are told as they come.
use Rattle.std.proofs.Common.{◌≡◌, ℕ, ◌+◌, List, [], ◌∷◌, ◌++◌, length, take, drop, Ok, refl, ap, sym, ◌∙◌, subst, arith, ◌≤◌, ◌-◌, length-drop, append_assoc, append-nil}
use Rattle.std.specs.List.{flat_map}
use Rattle.std.proofs.lemmas.Grind.{flat_map-append}
use Rattle.std.proofs.Math.Seq.{take-add}
use Rattle.log_lines.specs.Logs.{Said, log_said, Stands as ReaderStands}
use Rattle.log_lines.proofs.LogLemmas.{gave_all}
use Rattle.log_lines.specs.declared.line.LogLine.{LogLine}
use Rattle.log_words.specs.Sentences.{sentence_of}
use Rattle.ground_tools.specs.declared.log_teller.LogTeller.{LogTeller}
use Rattle.ground_tools.specs.Telling.{said_told, log_told, Stands, KeepsNames, TellsOn}

-- a teller read on, by what its reader gave of the bytes that came
pub tells_given : (old new : LogTeller) (text out bytes more : List ℕ) (given : List Said) → KeepsNames old new
    → ReaderStands new.reader (text ++ bytes) (log_said text ++ given) → more ≡ flat_map (said_told old.vocabulary old.epoch) given
    → TellsOn old new text bytes out (out ++ more)
unfolding log_told
tells_given old new text out bytes more given keeps reader told =
    let gave : log_said text ++ given ≡ log_said (text ++ bytes) = gave_all new.reader (text ++ bytes) (log_said text ++ given) reader in
    record {
      reader = subst (λ said. ReaderStands new.reader (text ++ bytes) said) gave reader;
      names = keeps;
      more = more;
      told = ap (flat_map (said_told old.vocabulary old.epoch)) (sym gave) ∙ flat_map-append (said_told old.vocabulary old.epoch) (log_said text) given
          ∙ ap (λ (xs : List ℕ). flat_map (said_told old.vocabulary old.epoch) (log_said text) ++ xs) (sym told);
      appended = refl;
    }

-- a teller that read on stands for the longer text
pub stands_on : (old new : LogTeller) (front text bytes out shown : List ℕ) → TellsOn old new text bytes out shown → Stands old front text out → Stands new front (text ++ bytes) shown
stands_on old new front text bytes out shown on s = record {
  reader = on.reader;
  told = rw (on.names.vocabulary, on.names.epoch)
      (on.appended ∙ ap (λ (xs : List ℕ). xs ++ on.more) s.told ∙ append_assoc front (log_told old.vocabulary old.epoch text) on.more ∙ ap (λ (xs : List ℕ). front ++ xs) (sym on.told));
}

-- what came in two parts of a piece
pub parts_join : (t : LogTeller) (front text out piece : List ℕ) (n m : ℕ) → Stands t front ((text ++ take n piece) ++ take m (drop n piece)) out
    → Stands t front (text ++ take (n + m) piece) out
parts_join t front text out piece n m s =
    subst (λ xs. Stands t front xs out) (append_assoc text (take n piece) (take m (drop n piece)) ∙ ap (λ xs. text ++ xs) (sym (take-add n m piece))) s

-- nothing came and nothing was told
pub told_none : (t : LogTeller) → ReaderStands t.reader [] [] → Stands t [] [] []
unfolding log_told
told_none t reader =
    let none : [] ≡ log_said [] = gave_all t.reader [] [] reader in
    record {
      reader = subst (λ said. ReaderStands t.reader [] said) none reader;
      told = ap (flat_map (said_told t.vocabulary t.epoch)) none;
    }

-- the reader gave no line, or one that is none of the log's
pub told_nothing : (old new : LogTeller) (text out bytes : List ℕ) (given : List Said) → KeepsNames old new
    → ReaderStands new.reader (text ++ bytes) (log_said text ++ given) → [] ≡ flat_map (said_told old.vocabulary old.epoch) given
    → TellsOn old new text bytes out out
told_nothing old new text out bytes given keeps reader none =
    subst (λ xs. TellsOn old new text bytes out xs) (append-nil out) (tells_given old new text out bytes [] given keeps reader none)

-- the reader gave a line, whose sentence was appended
pub told_line : (old new : LogTeller) (text out bytes shown : List ℕ) (line : LogLine) → KeepsNames old new
    → ReaderStands new.reader (text ++ bytes) (log_said text ++ Ok line ∷ []) → shown ≡ out ++ sentence_of old.vocabulary old.epoch line
    → TellsOn old new text bytes out (shown ++ 10 ∷ [])
told_line old new text out bytes shown line keeps reader show =
    let told : List ℕ = sentence_of old.vocabulary old.epoch line ++ 10 ∷ [] in
    subst (λ xs. TellsOn old new text bytes out xs) (sym (append_assoc out (sentence_of old.vocabulary old.epoch line) (10 ∷ [])) ∙ ap (λ (xs : List ℕ). xs ++ 10 ∷ []) (sym show))
    (tells_given old new text out bytes told (Ok line ∷ []) keeps reader (sym (append-nil told)))

-- a part of what is behind a part fits
pub part_fits : (piece rest : List ℕ) (n m : ℕ) → n ≤ length piece → rest ≡ drop n piece → m ≤ length rest → n + m ≤ length piece
part_fits piece rest n m fits is some =
    let size : length rest ≡ length piece - n = rw is (length-drop n piece) in
    omega (arith, fits, size, some)
