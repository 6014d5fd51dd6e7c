-- Lemmas on shown plans.
use Rattle.std.proofs.Common.{◌≡◌, ℕ, List, [], ◌∷◌, ◌++◌, refl, ap, sym, ◌∙◌, append_assoc, append-nil}
use Rattle.telecommands.specs.declared.command.Command.{Command}
use Rattle.table_texts.specs.Lines.{Numbered, kept_of}
use Rattle.shown_plans.specs.Shown.{shown_first, lines_shown, plan_shown, plain_words, plain_lines}

lines_nil : (cs : List Command) (told come : ℕ) → lines_shown cs told come [] ≡ []
unfolding lines_shown
lines_nil cs told come = refl

lines_cons : (cs : List Command) (told come : ℕ) (l : Numbered) (more : List Numbered) → lines_shown cs told come (l ∷ more) ≡ shown_first cs told come l.words (λ t c. lines_shown cs t c more)
unfolding lines_shown
lines_cons cs told come l more = refl

pub shown_start : (cs : List Command) (text out : List ℕ) → out ++ plan_shown cs text ≡ out ++ lines_shown cs 0 0 (kept_of 1 text)
unfolding plan_shown
shown_start cs text out = refl

-- one line more was shown
pub shown_more : (cs : List Command) (told come t c n : ℕ) (ws : List (List ℕ)) (lines more : List Numbered) (old new whole : List ℕ) → whole ≡ old ++ lines_shown cs told come lines → lines ≡ record { number = n; words = ws } ∷ more
    → ((next : ℕ → ℕ → List ℕ) → old ++ shown_first cs told come ws next ≡ new ++ next t c) → whole ≡ new ++ lines_shown cs t c more
shown_more cs told come t c n ws lines more old new whole is first given =
    is
    ∙ ap (λ (ls : List Numbered). old ++ lines_shown cs told come ls) first
    ∙ ap (λ (x : List ℕ). old ++ x) (lines_cons cs told come (record { number = n; words = ws }) more)
    ∙ given (λ t c. lines_shown cs t c more)

pub shown_all : (cs : List Command) (told come : ℕ) (lines : List Numbered) (old whole : List ℕ) → whole ≡ old ++ lines_shown cs told come lines → lines ≡ [] → old ≡ whole
shown_all cs told come lines old whole is none =
    sym (is ∙ ap (λ (ls : List Numbered). old ++ lines_shown cs told come ls) none ∙ ap (λ (x : List ℕ). old ++ x) (lines_nil cs told come) ∙ append-nil old)

-- ---- the scenario's own lines

pub plain_nil : plain_lines [] ≡ []
unfolding plain_lines
plain_nil = refl

pub plain_cons : (l : Numbered) (more : List Numbered) → plain_lines (l ∷ more) ≡ plain_words l.words ++ plain_lines more
unfolding plain_lines
plain_cons l more = refl

pub plain_more : (n : ℕ) (ws : List (List ℕ)) (lines more : List Numbered) (old new whole : List ℕ) → whole ≡ old ++ plain_lines lines → lines ≡ record { number = n; words = ws } ∷ more → new ≡ old ++ plain_words ws → whole ≡ new ++ plain_lines more
plain_more n ws lines more old new whole is first put =
    is
    ∙ ap (λ (ls : List Numbered). old ++ plain_lines ls) first
    ∙ ap (λ (x : List ℕ). old ++ x) (plain_cons (record { number = n; words = ws }) more)
    ∙ sym (append_assoc old (plain_words ws) (plain_lines more))
    ∙ ap (λ (x : List ℕ). x ++ plain_lines more) (sym put)

pub plain_all : (lines : List Numbered) (old whole : List ℕ) → whole ≡ old ++ plain_lines lines → lines ≡ [] → old ≡ whole
plain_all lines old whole is none =
    sym (is ∙ ap (λ (ls : List Numbered). old ++ plain_lines ls) none ∙ ap (λ (x : List ℕ). old ++ x) plain_nil ∙ append-nil old)
