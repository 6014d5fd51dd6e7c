-- Lemmas on logs in words, in which something stands in front of the sentences.
use Rattle.std.proofs.Common.{◌≡◌, ℕ, List, [], ◌∷◌, ◌++◌, length, ap, sym, ◌∙◌, subst, refl, append_assoc, append-nil}
use Rattle.std.proofs.lemmas.Grind.{flat_map-append}
use Rattle.log_lines.specs.Logs.{log_said, Stands as ReaderStands}
use Rattle.ground_tools.specs.declared.log_teller.LogTeller.{LogTeller}
use Rattle.ground_tools.specs.Telling.{log_told, TellsOn}
use Rattle.ground_tools.specs.Woven.{Placed, sentences_in, words_in, Weaves}

-- nothing came, and nothing was appended
pub woven_none : (t : LogTeller) (text out : List ℕ) → ReaderStands t.reader text (log_said text) → Weaves t t text [] out out
woven_none t text out reader = record {
  reader = subst (λ (xs : List ℕ). ReaderStands t.reader xs (log_said xs)) (sym (append-nil text)) reader;
  names = record { vocabulary = refl; epoch = refl };
  parts = [];
  told = ap (log_told t.vocabulary t.epoch) (append-nil text) ∙ sym (append-nil (log_told t.vocabulary t.epoch text));
  appended = sym (append-nil out);
}

-- a sentence alone was told, and then stands behind something
pub woven_one : (old new : LogTeller) (text bytes none told out before shown : List ℕ) → none ≡ [] → TellsOn old new text bytes none told → shown ≡ out ++ before ++ told → Weaves old new text bytes out shown
woven_one old new text bytes none told out before shown empty on is = record {
  reader = on.reader;
  names = on.names;
  parts = record { before = before; sentence = on.more } ∷ [];
  told = on.told ∙ ap (λ (xs : List ℕ). log_told old.vocabulary old.epoch text ++ xs) (sym (append-nil on.more));
  appended = is ∙ append_assoc out before told ∙ ap (λ (xs : List ℕ). out ++ xs) (ap (λ (xs : List ℕ). before ++ xs) (on.appended ∙ ap (λ (xs : List ℕ). xs ++ on.more) empty) ∙ sym (append-nil (before ++ on.more)));
}

-- no line ended
pub woven_nothing : (old new : LogTeller) (text bytes none told out : List ℕ) → none ≡ [] → told ≡ [] → TellsOn old new text bytes none told → Weaves old new text bytes out out
woven_nothing old new text bytes none told out empty nothing on =
    let more : on.more ≡ [] = sym (on.appended ∙ ap (λ (xs : List ℕ). xs ++ on.more) empty) ∙ nothing in
    record {
      reader = on.reader;
      names = on.names;
      parts = [];
      told = on.told ∙ ap (λ (xs : List ℕ). log_told old.vocabulary old.epoch text ++ xs) more;
      appended = sym (append-nil out);
    }

-- what came in two parts
pub woven_on : (a b c : LogTeller) (text xs ys out mid shown : List ℕ) → Weaves a b text xs out mid → Weaves b c (text ++ xs) ys mid shown → Weaves a c text (xs ++ ys) out shown
woven_on a b c text xs ys out mid shown one two =
    let both : sentences_in (one.parts ++ two.parts) ≡ sentences_in one.parts ++ sentences_in two.parts = flat_map-append (λ (p : Placed). p.sentence) one.parts two.parts in
    let words : words_in (one.parts ++ two.parts) ≡ words_in one.parts ++ words_in two.parts = flat_map-append (λ (p : Placed). p.before ++ p.sentence) one.parts two.parts in
    let told : log_told a.vocabulary a.epoch ((text ++ xs) ++ ys) ≡ log_told a.vocabulary a.epoch (text ++ xs) ++ sentences_in two.parts =
    rw (sym one.names.vocabulary, sym one.names.epoch) two.told in
    record {
      reader = subst (λ (zs : List ℕ). ReaderStands c.reader zs (log_said zs)) (append_assoc text xs ys) two.reader;
      names = record { vocabulary = two.names.vocabulary ∙ one.names.vocabulary; epoch = two.names.epoch ∙ one.names.epoch };
      parts = one.parts ++ two.parts;
      told = ap (log_told a.vocabulary a.epoch) (sym (append_assoc text xs ys)) ∙ told ∙ ap (λ (zs : List ℕ). zs ++ sentences_in two.parts) one.told
          ∙ append_assoc (log_told a.vocabulary a.epoch text) (sentences_in one.parts) (sentences_in two.parts) ∙ ap (λ (zs : List ℕ). log_told a.vocabulary a.epoch text ++ zs) (sym both);
      appended = two.appended ∙ ap (λ (zs : List ℕ). zs ++ words_in two.parts) one.appended ∙ append_assoc out (words_in one.parts) (words_in two.parts) ∙ ap (λ (zs : List ℕ). out ++ zs) (sym words);
    }

pub nothing_there : (xs : List ℕ) → length xs ≡ 0 → xs ≡ []
nothing_there [] none = refl
nothing_there (x ∷ xs) none = cc
