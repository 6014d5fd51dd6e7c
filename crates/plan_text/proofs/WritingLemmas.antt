-- Lemmas on lines that are written.
use Rattle.std.proofs.Common.{◌≡◌, ℕ, zero, suc, ◌+◌, List, [], ◌∷◌, ◌++◌, refl, ap, sym, ◌∙◌, arith, append_assoc, append-nil}
use Rattle.std.specs.Prelude.{replicate, codes}
use Rattle.row_forms.specs.Rows.{spaced}
use Rattle.row_forms.proofs.TextLemmas.{spaced_nil, spaced_cons}
use Rattle.plan_text.specs.Lines.{line_text, text_of, tick, end}

pub text_nil : text_of [] ≡ []
unfolding text_of
text_nil = refl

pub text_cons : (line : List (List ℕ)) (more : List (List (List ℕ))) → text_of (line ∷ more) ≡ line_text line ++ text_of more
unfolding text_of
text_cons line more = refl

-- the text of lines and of those behind them
pub text_append : (xs ys : List (List (List ℕ))) → text_of (xs ++ ys) ≡ text_of xs ++ text_of ys
text_append [] ys = ap (λ (t : List ℕ). t ++ text_of ys) (sym text_nil)
text_append (x ∷ xs) ys =
    text_cons x (xs ++ ys)
    ∙ ap (λ (t : List ℕ). line_text x ++ t) (text_append xs ys)
    ∙ sym (append_assoc (line_text x) (text_of xs) (text_of ys))
    ∙ ap (λ (t : List ℕ). t ++ text_of ys) (sym (text_cons x xs))

-- the text of one line
pub text_one : (line : List (List ℕ)) → text_of (line ∷ []) ≡ line_text line
text_one line = text_cons line [] ∙ ap (λ (t : List ℕ). line_text line ++ t) text_nil ∙ append-nil (line_text line)

ticks_last : (n : ℕ) → replicate (suc n) tick ≡ replicate n tick ++ tick ∷ []
ticks_last zero = refl
ticks_last (suc n) = ap (λ (ts : List (List (List ℕ))). tick ∷ ts) (ticks_last n)

-- one tick more
pub text_ticks : (n : ℕ) → text_of (replicate (n + 1) tick) ≡ text_of (replicate n tick) ++ line_text tick
text_ticks n = ap (λ (k : ℕ). text_of (replicate k tick)) (let e : n + 1 ≡ suc n = omega arith in e) ∙ ap text_of (ticks_last n) ∙ text_append (replicate n tick) (tick ∷ []) ∙ ap (λ (t : List ℕ). text_of (replicate n tick) ++ t) (text_one tick)

-- one word more was written
pub word_put : (ws : List (List ℕ)) (w old one two : List ℕ) (more : List (List ℕ)) → ws ≡ w ∷ more → one ≡ old ++ 32 ∷ [] → two ≡ one ++ w → old ++ spaced ws ≡ two ++ spaced more
word_put ws w old one two more split space word =
    ap (λ (vs : List (List ℕ)). old ++ spaced vs) split
    ∙ ap (λ (t : List ℕ). old ++ t) (spaced_cons w more)
    ∙ sym (append_assoc old (32 ∷ []) (w ++ spaced more))
    ∙ ap (λ (t : List ℕ). t ++ (w ++ spaced more)) (sym space)
    ∙ sym (append_assoc one w (spaced more))
    ∙ ap (λ (t : List ℕ). t ++ spaced more) (sym word)

-- all words were written
pub none_left : (out : List ℕ) (ws : List (List ℕ)) → ws ≡ [] → out ≡ out ++ spaced ws
none_left out ws none = sym (ap (λ (vs : List (List ℕ)). out ++ spaced vs) none ∙ ap (λ (t : List ℕ). out ++ t) spaced_nil ∙ append-nil out)

-- one tick more was written
pub tick_put : (n : ℕ) (old out new : List ℕ) → out ≡ old ++ text_of (replicate n tick) → new ≡ out ++ codes "tick\n" → new ≡ old ++ text_of (replicate (n + 1) tick)
unfolding spaced
tick_put n old out new is put =
    put ∙ ap (λ (t : List ℕ). t ++ codes "tick\n") is
    ∙ append_assoc old (text_of (replicate n tick)) (codes "tick\n")
    ∙ ap (λ (t : List ℕ). old ++ t) (sym (text_ticks n))

-- the end was written behind ticks
pub end_put : (n : ℕ) (old out new : List ℕ) → out ≡ old ++ text_of (replicate n tick) → new ≡ out ++ codes "end\n" → new ≡ old ++ text_of (replicate n tick ++ end ∷ [])
unfolding spaced
end_put n old out new is put =
    put ∙ ap (λ (t : List ℕ). t ++ codes "end\n") is
    ∙ append_assoc old (text_of (replicate n tick)) (codes "end\n")
    ∙ ap (λ (t : List ℕ). old ++ t) (sym (text_append (replicate n tick) (end ∷ []) ∙ ap (λ (t : List ℕ). text_of (replicate n tick) ++ t) (text_one end)))
