-- Lemmas on the lines of plans.
use Rattle.std.proofs.Common.{◌≡◌, ℕ, ◌+◌, false, List, [], ◌∷◌, ◌++◌, Option, Some, None, refl, ap, sym, subst, ◌∙◌, append_assoc, append-nil}
use Rattle.std.specs.Prelude.{codes, Result, Ok, Err}
use Rattle.row_forms.specs.Words.{words}
use Rattle.row_forms.specs.Rows.{with_front, behind_key, spaced}
use Rattle.row_forms.proofs.TextLemmas.{spaced_nil, spaced_cons}
use Rattle.plan_text.specs.Lines.{line_text}
use Rattle.load_books.specs.declared.fault.BookReason.{BookReason}
use Rattle.load_books.specs.declared.fault.BookFault.{BookFault}
use Rattle.load_books.specs.declared.fault.BookError.{BookError}
use Rattle.load_books.specs.declared.fault.LineError.{LineError}
use Rattle.load_books.specs.declared.fault.LineError.TheVariants as line_errors
use Rattle.load_books.specs.declared.titles.FileKind.TheVariants as kinds
use Rattle.load_books.specs.Cuts.{whole_lines, bare, words_in, begins}
use Rattle.load_books.specs.Contents.{FileText, error_on}
use Rattle.load_books.specs.Lines.{book_line}
use Rattle.load_books.specs.Naming.{name_said, word_shown, first_shown, activate_others, keyed_others, load_others, onto_line, send_others, line_said, line_shown, then_plan, plan_said, GivesLine, GivesPlan}
use Rattle.load_books.proofs.CutLemmas.{no_lines}

-- ---- texts of lines

abbrev pub text_shown : List ℕ → List ℕ → List (List ℕ) → List ℕ
text_shown begin v ws = begin ++ (v ++ (spaced ws ++ 10 ∷ []))

-- a line by its first word
pub plain : (w : List ℕ) (ws : List (List ℕ)) → text_shown w [] ws ≡ line_text (w ∷ ws)
plain w ws = sym (append_assoc w (spaced ws) (10 ∷ []))

-- a line without words
pub blank : (ws : List (List ℕ)) → ws ≡ [] → text_shown [] [] ws ≡ line_text ws
blank ws e = rw e (ap (λ (t : List ℕ). t ++ 10 ∷ []) spaced_nil)

-- a line by its first two words
named : (w v : List ℕ) (ws : List (List ℕ)) → line_text (w ∷ v ∷ ws) ≡ text_shown (w ++ 32 ∷ []) v ws
named w v ws =
    ap (λ (t : List ℕ). (w ++ t) ++ 10 ∷ []) (spaced_cons v ws)
    ∙ append_assoc w (32 ∷ (v ++ spaced ws)) (10 ∷ [])
    ∙ ap (λ (t : List ℕ). w ++ 32 ∷ t) (append_assoc v (spaced ws) (10 ∷ []))
    ∙ sym (append_assoc w (32 ∷ []) (v ++ (spaced ws ++ 10 ∷ [])))

two_words : (ws : List (List ℕ)) → line_text (codes "send" ∷ codes "mm.load_file" ∷ ws) ≡ line_text (codes "send mm.load_file" ∷ ws)
two_words ws = ap (λ (t : List ℕ). (codes "send" ++ t) ++ 10 ∷ []) (spaced_cons (codes "mm.load_file") ws)

-- ---- `activate`

abbrev activate_line : List FileText → List (List ℕ) → Result (List ℕ) BookReason
activate_line files ws = line_shown (onto_line (codes "activate") (activate_others files ws))

pub activate_none : (files : List FileText) (ws : List (List ℕ)) (text : List ℕ) → ws ≡ [] → text ≡ line_text (codes "activate" ∷ ws) → activate_line files ws ≡ Ok text
activate_none files ws text e is = ap (activate_line files) e ∙ ap (λ (vs : List (List ℕ)). Ok (line_text (codes "activate" ∷ vs))) (sym e) ∙ ap (λ (t : List ℕ). Ok t) (sym is)

pub activate_named : (files : List FileText) (ws vs : List (List ℕ)) (w : List ℕ) (number : Option ℕ) → ws ≡ w ∷ vs → Ok number ≡ name_said kinds.Table files w → activate_line files ws ≡ Ok (text_shown (codes "activate ") (word_shown [] w number) vs)
activate_named files ws vs w number e said =
    ap (activate_line files) e
    ∙ ap (λ (r : Result (Option ℕ) BookReason). line_shown (onto_line (codes "activate") (first_shown [] w r vs))) (sym said)
    ∙ ap (λ (t : List ℕ). Ok t) (named (codes "activate") (word_shown [] w number) vs)

pub activate_fault : (files : List FileText) (ws vs : List (List ℕ)) (w : List ℕ) (reason : BookReason) → ws ≡ w ∷ vs → Err reason ≡ name_said kinds.Table files w → activate_line files ws ≡ Err reason
activate_fault files ws vs w reason e said =
    ap (activate_line files) e ∙ ap (λ (r : Result (Option ℕ) BookReason). line_shown (onto_line (codes "activate") (first_shown [] w r vs))) (sym said)

-- ---- `send mm.load_file`

abbrev load_line : Result (List (List ℕ)) BookReason → Result (List ℕ) BookReason
load_line others = line_shown (onto_line (codes "send") (onto_line (codes "mm.load_file") others))

pub load_none : (files : List FileText) (ws : List (List ℕ)) (text : List ℕ) → ws ≡ [] → text ≡ line_text (codes "send mm.load_file" ∷ ws) → load_line (load_others files ws) ≡ Ok text
load_none files ws text e is =
    ap (λ (vs : List (List ℕ)). load_line (load_others files vs)) e
    ∙ ap (λ (t : List ℕ). Ok t) (two_words [])
    ∙ ap (λ (vs : List (List ℕ)). Ok (line_text (codes "send mm.load_file" ∷ vs))) (sym e)
    ∙ ap (λ (t : List ℕ). Ok t) (sym is)

load_keyed : (files : List FileText) (ws vs : List (List ℕ)) (w : List ℕ) (key : Option (List ℕ)) → ws ≡ w ∷ vs → behind_key (codes "load") w ≡ key → load_line (load_others files ws) ≡ load_line (keyed_others files key w vs)
load_keyed files ws vs w key e is = ap (λ (us : List (List ℕ)). load_line (load_others files us)) e ∙ ap (λ (k : Option (List ℕ)). load_line (keyed_others files k w vs)) is

pub load_plain : (files : List FileText) (ws vs : List (List ℕ)) (w : List ℕ) → ws ≡ w ∷ vs → behind_key (codes "load") w ≡ None → load_line (load_others files ws) ≡ Ok (text_shown (codes "send mm.load_file ") w vs)
load_plain files ws vs w e is = load_keyed files ws vs w None e is ∙ ap (λ (t : List ℕ). Ok t) (two_words (w ∷ vs) ∙ named (codes "send mm.load_file") w vs)

pub load_named : (files : List FileText) (ws vs : List (List ℕ)) (w name : List ℕ) (number : Option ℕ) → ws ≡ w ∷ vs → behind_key (codes "load") w ≡ Some name → Ok number ≡ name_said kinds.Load files name → load_line (load_others files ws) ≡ Ok (text_shown (codes "send mm.load_file ") (word_shown (codes "load=") w number) vs)
load_named files ws vs w name number e is said =
    load_keyed files ws vs w (Some name) e is
    ∙ ap (λ (r : Result (Option ℕ) BookReason). load_line (first_shown (codes "load=") w r vs)) (sym said)
    ∙ ap (λ (t : List ℕ). Ok t) (two_words (word_shown (codes "load=") w number ∷ vs) ∙ named (codes "send mm.load_file") (word_shown (codes "load=") w number) vs)

pub load_fault : (files : List FileText) (ws vs : List (List ℕ)) (w name : List ℕ) (reason : BookReason) → ws ≡ w ∷ vs → behind_key (codes "load") w ≡ Some name → Err reason ≡ name_said kinds.Load files name → load_line (load_others files ws) ≡ Err reason
load_fault files ws vs w name reason e is said =
    load_keyed files ws vs w (Some name) e is ∙ ap (λ (r : Result (Option ℕ) BookReason). load_line (first_shown (codes "load=") w r vs)) (sym said)

-- ---- other lines

send_kept : (files : List FileText) (ws : List (List ℕ)) → begins (codes "mm.load_file") ws ≡ false → send_others files ws ≡ Ok ws
send_kept files [] e = refl
send_kept files (w ∷ ws) e = rw e refl

pub send_plain : (files : List FileText) (ws : List (List ℕ)) (text : List ℕ) → begins (codes "mm.load_file") ws ≡ false → text ≡ line_text (codes "send" ∷ ws) → line_shown (onto_line (codes "send") (send_others files ws)) ≡ Ok text
send_plain files ws text e is = ap (λ (r : Result (List (List ℕ)) BookReason). line_shown (onto_line (codes "send") r)) (send_kept files ws e) ∙ ap (λ (t : List ℕ). Ok t) (sym is)

line_kept : (files : List FileText) (ws : List (List ℕ)) → begins (codes "activate") ws ≡ false → begins (codes "send") ws ≡ false → line_said files ws ≡ Ok ws
line_kept files [] a s = refl
line_kept files (w ∷ ws) a s = rw a (rw s refl)

pub line_plain : (files : List FileText) (ws : List (List ℕ)) (text : List ℕ) → begins (codes "activate") ws ≡ false → begins (codes "send") ws ≡ false → text ≡ line_text ws → line_shown (line_said files ws) ≡ Ok text
line_plain files ws text a s is = ap line_shown (line_kept files ws a s) ∙ ap (λ (t : List ℕ). Ok t) (sym is)

-- ---- all lines

plan_first : (part : ℕ) (files : List FileText) (n : ℕ) (line : List ℕ) (more : List (List ℕ)) → plan_said part files n (line ∷ more) ≡ then_plan (book_line part n) (line_shown (line_said files (words_in line))) (plan_said part files (n + 1) more)
unfolding plan_said
plan_first part files n line more = refl

plan_none : (part : ℕ) (files : List FileText) (n : ℕ) → plan_said part files n [] ≡ Ok []
unfolding plan_said
plan_none part files n = refl

plan_next : (part : ℕ) (files : List FileText) (n : ℕ) (text line bytes rest : List ℕ) → whole_lines text ≡ line ∷ whole_lines rest → bare line ≡ bytes → plan_said part files n (whole_lines text) ≡ then_plan (book_line part n) (line_shown (line_said files (words bytes))) (plan_said part files (n + 1) (whole_lines rest))
plan_next part files n text line bytes rest e is =
    ap (plan_said part files n) e ∙ plan_first part files n line (whole_lines rest)
    ∙ ap (λ (b : List ℕ). then_plan (book_line part n) (line_shown (line_said files (words b))) (plan_said part files (n + 1) (whole_lines rest))) is

abbrev text_in : Result (List ℕ) BookReason → List ℕ
text_in (Ok text) = text
text_in (Err reason) = []

fronts_join : (n : ℕ) (said : Result (List ℕ) BookReason) (old new : List ℕ) (more : Result (List ℕ) BookFault) → with_front old said ≡ Ok new → with_front old (then_plan n said more) ≡ with_front new more
fronts_join n (Ok text) old new (Ok more) e = ap (λ (t : List ℕ). Ok t) (sym (append_assoc old text more) ∙ ap (λ (t : List ℕ). t ++ more) (ap text_in e))
fronts_join n (Ok text) old new (Err fault) e = refl
fronts_join n (Err reason) old new more e = absurd (cc)

-- a line was put
pub line_put : (part : ℕ) (files : List FileText) (n : ℕ) (text line bytes rest old new : List ℕ) → whole_lines text ≡ line ∷ whole_lines rest → bare line ≡ bytes → with_front old (line_shown (line_said files (words bytes))) ≡ Ok new → with_front old (plan_said part files n (whole_lines text)) ≡ with_front new (plan_said part files (n + 1) (whole_lines rest))
line_put part files n text line bytes rest old new e is put =
    ap (with_front old) (plan_next part files n text line bytes rest e is)
    ∙ fronts_join (book_line part n) (line_shown (line_said files (words bytes))) old new (plan_said part files (n + 1) (whole_lines rest)) put

fault_kept : (old : List ℕ) (said : Result (List ℕ) BookReason) (reason : BookReason) → with_front old said ≡ Err reason → said ≡ Err reason
fault_kept old (Ok text) reason e = absurd (cc)
fault_kept old (Err r) reason e = e

-- a line is refused
pub line_fails : (said : Result (List ℕ) BookFault) (part : ℕ) (files : List FileText) (n : ℕ) (text line bytes rest old new out : List ℕ) (e : LineError) → said ≡ with_front old (plan_said part files n (whole_lines text)) → whole_lines text ≡ line ∷ whole_lines rest → bare line ≡ bytes → GivesLine (with_front old (line_shown (line_said files (words bytes)))) new (Err e) → GivesPlan said out (Err (error_on (book_line part n) e))
line_fails said part files n text line bytes rest old new out (line_errors.Memory e) so_far first is given = tt
line_fails said part files n text line bytes rest old new out (line_errors.Because reason) so_far first is given =
    so_far ∙ ap (with_front old) (plan_next part files n text line bytes rest first is)
    ∙ ap (λ (r : Result (List ℕ) BookReason). with_front old (then_plan (book_line part n) r (plan_said part files (n + 1) (whole_lines rest)))) (fault_kept old (line_shown (line_said files (words bytes))) reason given)

-- all lines were put
pub plan_ends : (part : ℕ) (files : List FileText) (n : ℕ) (left old : List ℕ) → left ≡ [] → with_front old (plan_said part files n (whole_lines left)) ≡ Ok old
plan_ends part files n left old e =
    ap (λ (t : List ℕ). with_front old (plan_said part files n (whole_lines t))) e
    ∙ ap (λ (ls : List (List ℕ)). with_front old (plan_said part files n ls)) no_lines
    ∙ ap (with_front old) (plan_none part files n)
    ∙ ap (λ (t : List ℕ). Ok t) (append-nil old)

pub fails_by : (said : Result (List ℕ) BookFault) (out : List ℕ) (x y : BookError) → x ≡ y → GivesPlan said out (Err y) → GivesPlan said out (Err x)
fails_by said out x y e h = subst (λ (z : BookError). GivesPlan said out (Err z)) (sym e) h
