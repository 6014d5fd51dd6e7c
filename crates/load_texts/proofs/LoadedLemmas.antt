-- Lemmas on lines of bytes.
use Rattle.std.proofs.Common.{◌≡◌, ℕ, zero, suc, ◌+◌, ◌-◌, ◌≤◌, true, false, List, [], ◌∷◌, ◌++◌, length, take, drop, Some, None, refl, ap, sym, ◌∙◌, arith, append_assoc, length-drop}
use Rattle.std.specs.Prelude.{◌==◌, codes, Result, Ok, Err}
use Rattle.std.proofs.lemmas.Bool.Decides.{nat_tests}
use Rattle.row_forms.specs.declared.fault.Reason.TheVariants as reasons
use Rattle.row_forms.specs.Words.{hex_said}
use Rattle.row_forms.specs.Rows.{with_front}
use Rattle.table_texts.specs.declared.fault.LineFault.{LineFault}
use Rattle.table_texts.specs.declared.fault.LineFault.TheVariants as line_faults
use Rattle.table_texts.specs.Lines.{Numbered, kept_of}
use Rattle.table_texts.specs.Endings.{row_fault, ended, behind_first}
use Rattle.table_texts.specs.Sequences.{some_bytes, bytes_said}
use Rattle.load_texts.specs.declared.fault.LoadFault.{LoadFault}
use Rattle.load_texts.specs.declared.fault.LoadFault.TheVariants as faults
use Rattle.load_texts.specs.declared.fault.ReadError.{ReadError}
use Rattle.load_texts.specs.declared.fault.ReadError.TheVariants as errors
use Rattle.load_texts.specs.Headers.{line_refused, line_error, begins}
use Rattle.load_texts.specs.Loaded.{as_load, on_line, line_said, then_loaded, loaded_said, path_said, named_on, file_asked, behind_named, body_said, loaded_line, loaded_shown, loaded_text, GivesLoaded}

-- ---- a line

pub line_other : (n : ℕ) (ws : List (List ℕ)) → begins (codes "bytes") ws ≡ false → line_said n ws ≡ Err (faults.Word n)
unfolding line_said
line_other n ws e = rw e refl

pub line_bytes : (n : ℕ) (ws behind : List (List ℕ)) → begins (codes "bytes") ws ≡ true → behind ≡ behind_first ws → line_said n ws ≡ on_line n (bytes_said behind)
unfolding line_said
line_bytes n ws behind e same = rw (e, same) refl

pub fault_gives : (n : ℕ) (ws : List (List ℕ)) (old new : List ℕ) (fault : LineFault) (e : ReadError) → line_said n ws ≡ Err (line_refused n fault) → e ≡ line_error n fault → GivesLoaded (with_front old (line_said n ws)) new (Err e)
fault_gives n ws old new fault e said is = rw is (ap (with_front old) said)

pub line_missing : (n : ℕ) (ws behind : List (List ℕ)) → begins (codes "bytes") ws ≡ true → behind ≡ behind_first ws → behind ≡ [] → line_said n ws ≡ Err (line_refused n (row_fault 2 reasons.Missing))
line_missing n ws behind here same none = line_bytes n ws behind here same ∙ ap (λ (vs : List (List ℕ)). on_line n (bytes_said vs)) none

pub line_extra : (n : ℕ) (ws behind rest more : List (List ℕ)) (w v : List ℕ) → begins (codes "bytes") ws ≡ true → behind ≡ behind_first ws → behind ≡ w ∷ rest → rest ≡ v ∷ more → line_said n ws ≡ Err (line_refused n (row_fault 3 reasons.Extra))
line_extra n ws behind rest more w v here same e two = line_bytes n ws behind here same ∙ ap (λ (vs : List (List ℕ)). on_line n (bytes_said vs)) (e ∙ ap (λ (vs : List (List ℕ)). w ∷ vs) two)

line_block : (n : ℕ) (ws behind rest : List (List ℕ)) (w : List ℕ) → begins (codes "bytes") ws ≡ true → behind ≡ behind_first ws → behind ≡ w ∷ rest → rest ≡ [] → line_said n ws ≡ on_line n (some_bytes (hex_said w))
line_block n ws behind rest w here same e none = line_bytes n ws behind here same ∙ ap (λ (vs : List (List ℕ)). on_line n (bytes_said vs)) (e ∙ ap (λ (vs : List (List ℕ)). w ∷ vs) none)

pub block_gives : (n : ℕ) (ws behind rest : List (List ℕ)) (w old new : List ℕ) (r : Result (Unit {0}) ReadError) → begins (codes "bytes") ws ≡ true → behind ≡ behind_first ws → behind ≡ w ∷ rest → rest ≡ [] → GivesLoaded (with_front old (on_line n (some_bytes (hex_said w)))) new r → GivesLoaded (with_front old (line_said n ws)) new r
block_gives n ws behind rest w old new r here same e none given = rw (line_block n ws behind rest w here same e none) given

-- ---- all lines

loaded_nil : (n : ℕ) (lines : List Numbered) → lines ≡ [] → loaded_said n lines ≡ Err (line_refused n line_faults.End)
unfolding loaded_said
loaded_nil n lines e = rw e refl

pub loaded_end : (n m : ℕ) (ws : List (List ℕ)) (lines more : List Numbered) → lines ≡ record { number = m; words = ws } ∷ more → begins (codes "end") ws ≡ true → loaded_said n lines ≡ as_load (ended [] m (behind_first ws) more)
unfolding loaded_said
loaded_end n m ws lines more e end = rw e (rw end refl)

pub loaded_more : (n m : ℕ) (ws : List (List ℕ)) (lines more : List Numbered) → lines ≡ record { number = m; words = ws } ∷ more → begins (codes "end") ws ≡ false → loaded_said n lines ≡ then_loaded (line_said m ws) (loaded_said (m + 1) more)
unfolding loaded_said
loaded_more n m ws lines more e end = rw e (rw end refl)

pub front_front : (a b : List ℕ) (r : Result (List ℕ) LoadFault) → with_front a (with_front b r) ≡ with_front (a ++ b) r
front_front a b (Ok bytes) = ap Ok (sym (append_assoc a b bytes))
front_front a b (Err fault) = refl

ok_same : (a b : List ℕ) → ◌≡◌ {A = Result (List ℕ) LoadFault} (Ok a) (Ok b) → a ≡ b
ok_same a b e = cc

line_then : (old mid : List ℕ) (said next : Result (List ℕ) LoadFault) → with_front old said ≡ Ok mid → with_front old (then_loaded said next) ≡ with_front mid next
line_then old mid (Ok bytes) next e = front_front old bytes next ∙ ap (λ (xs : List ℕ). with_front xs next) (ok_same (old ++ bytes) mid e)
line_then old mid (Err fault) next e = absurd (cc)

-- one line more was read
pub line_read : (n m : ℕ) (ws : List (List ℕ)) (lines more : List Numbered) (old mid : List ℕ) → lines ≡ record { number = m; words = ws } ∷ more → begins (codes "end") ws ≡ false → with_front old (line_said m ws) ≡ Ok mid → with_front old (loaded_said n lines) ≡ with_front mid (loaded_said (m + 1) more)
line_read n m ws lines more old mid e end said =
    ap (with_front old) (loaded_more n m ws lines more e end) ∙ line_then old mid (line_said m ws) (loaded_said (m + 1) more) said

pub end_gives : (n m : ℕ) (ws behind : List (List ℕ)) (lines more : List Numbered) (old : List ℕ) (whole : Result (List ℕ) LoadFault) (r : Result (Unit {0}) ReadError) → whole ≡ with_front old (loaded_said n lines) → lines ≡ record { number = m; words = ws } ∷ more → begins (codes "end") ws ≡ true → behind ≡ behind_first ws
    → GivesLoaded (with_front old (as_load (ended [] m behind more))) old r → GivesLoaded whole old r
end_gives n m ws behind lines more old whole r w e end same given = rw (w, loaded_end n m ws lines more e end, ← same) given

line_fault : (old : List ℕ) (said next : Result (List ℕ) LoadFault) (fault : LoadFault) → with_front old said ≡ Err fault → with_front old (then_loaded said next) ≡ Err fault
line_fault old (Ok bytes) next fault e = absurd (cc)
line_fault old (Err f) next fault e = let same : f ≡ fault = cc in ap (λ (x : LoadFault). Err x) same

pub error_gives : (n m : ℕ) (ws : List (List ℕ)) (lines more : List Numbered) (old mid new : List ℕ) (whole : Result (List ℕ) LoadFault) (e : ReadError) → whole ≡ with_front old (loaded_said n lines) → lines ≡ record { number = m; words = ws } ∷ more → begins (codes "end") ws ≡ false → GivesLoaded (with_front old (line_said m ws)) mid (Err e) → GivesLoaded whole new (Err e)
error_gives n m ws lines more old mid new whole (errors.Memory e) w here end given = tt
error_gives n m ws lines more old mid new whole (errors.Fault fault) w here end said =
    w ∙ ap (with_front old) (loaded_more n m ws lines more here end) ∙ line_fault old (line_said m ws) (loaded_said (m + 1) more) fault said

pub none_gives : (n : ℕ) (lines : List Numbered) (old new : List ℕ) (whole : Result (List ℕ) LoadFault) (e : ReadError) → whole ≡ with_front old (loaded_said n lines) → lines ≡ [] → e ≡ line_error n line_faults.End → GivesLoaded whole new (Err e)
none_gives n lines old new whole e w none is = rw is (w ∙ ap (with_front old) (loaded_nil n lines none))

-- ---- the file that is asked for

pub body_none : (named : List ℕ) (n : ℕ) (lines : List Numbered) → lines ≡ [] → body_said named n lines ≡ loaded_said n lines
unfolding body_said
body_none named n lines e = rw e refl

pub body_lines : (named : List ℕ) (n m : ℕ) (ws : List (List ℕ)) (lines more : List Numbered) → lines ≡ record { number = m; words = ws } ∷ more → path_said ws ≡ None → body_said named n lines ≡ loaded_said n lines
unfolding body_said
body_lines named n m ws lines more e none = rw e (rw none refl)

pub body_named : (named : List ℕ) (n m : ℕ) (ws : List (List ℕ)) (path : List ℕ) (lines more : List Numbered) → lines ≡ record { number = m; words = ws } ∷ more → path_said ws ≡ Some path → body_said named n lines ≡ behind_named named m (behind_first ws) more
unfolding body_said
body_named named n m ws path lines more e some = rw e (rw some refl)

pub body_gives : (named : List ℕ) (n : ℕ) (lines : List Numbered) (old new : List ℕ) (said : Result (List ℕ) LoadFault) (r : Result (Unit {0}) ReadError) → body_said named n lines ≡ said → GivesLoaded (with_front old said) new r → GivesLoaded (with_front old (body_said named n lines)) new r
body_gives named n lines old new said r e given = rw e given

pub named_body : (named : List ℕ) (n m : ℕ) (ws behind : List (List ℕ)) (path : List ℕ) (lines more : List Numbered) → lines ≡ record { number = m; words = ws } ∷ more → path_said ws ≡ Some path → behind ≡ behind_first ws → body_said named n lines ≡ behind_named named m behind more
named_body named n m ws behind path lines more e some same = body_named named n m ws path lines more e some ∙ ap (λ (vs : List (List ℕ)). behind_named named m vs more) (sym same)

pub named_gives : (named : List ℕ) (m : ℕ) (behind : List (List ℕ)) (more : List Numbered) (old mid new : List ℕ) (r : Result (Unit {0}) ReadError) → behind ≡ [] → mid ≡ old ++ named → GivesLoaded (with_front mid (loaded_said (m + 1) more)) new r → GivesLoaded (with_front old (behind_named named m behind more)) new r
named_gives named m behind more old mid new r none e given = rw (none, front_front old named (loaded_said (m + 1) more), ← e) given

pub asked_none : (text : List ℕ) → kept_of 1 text ≡ [] → file_asked text ≡ None
unfolding file_asked
asked_none text e = rw e refl

pub asked_one : (text : List ℕ) (line : Numbered) (more : List Numbered) → kept_of 1 text ≡ line ∷ more → more ≡ [] → file_asked text ≡ None
unfolding file_asked
asked_one text line more e none = rw (e, none) refl

pub asked_two : (text : List ℕ) (line second : Numbered) (lines more : List Numbered) → kept_of 1 text ≡ line ∷ lines → lines ≡ second ∷ more → file_asked text ≡ named_on second.number (path_said second.words)
unfolding file_asked
asked_two text line second lines more e two = rw (e, two) refl

-- ---- bytes that are shown

shown_end : (fuel : ℕ) → loaded_shown fuel [] ≡ codes "end" ++ 10 ∷ []
unfolding loaded_shown
shown_end zero = refl
shown_end (suc fuel) = refl

shown_cons : (fuel b : ℕ) (bytes : List ℕ) → loaded_shown (suc fuel) (b ∷ bytes) ≡ loaded_line (take 32 (b ∷ bytes)) ++ loaded_shown fuel (drop 32 (b ∷ bytes))
unfolding loaded_shown
shown_cons fuel b bytes = let none : (length (b ∷ bytes) == 0) ≡ false = grind (arith, nat_tests) in rw none refl

-- more fuel than bytes shows nothing else
enough : (f g : ℕ) (bytes : List ℕ) → length bytes ≤ f → length bytes ≤ g → loaded_shown f bytes ≡ loaded_shown g bytes
enough f g [] a b = shown_end f ∙ sym (shown_end g)
enough zero g (x ∷ bytes) a b = absurd (omega (arith, a))
enough (suc f) zero (x ∷ bytes) a b = absurd (omega (arith, b))
enough (suc f) (suc g) (x ∷ bytes) a b =
    let less : length (drop 32 (x ∷ bytes)) ≡ length (x ∷ bytes) - 32 = length-drop 32 (x ∷ bytes) in
    shown_cons f x bytes
    ∙ ap (λ (xs : List ℕ). loaded_line (take 32 (x ∷ bytes)) ++ xs) (enough f g (drop 32 (x ∷ bytes)) (omega (arith, less)) (omega (arith, less)))
    ∙ sym (shown_cons g x bytes)

pub shown_none : (bytes : List ℕ) → (length bytes == 0) ≡ true → loaded_text bytes ≡ codes "end" ++ 10 ∷ []
shown_none [] e = shown_end 0
shown_none (b ∷ bytes) e = let h : length (b ∷ bytes) ≡ 0 = grind (arith, nat_tests) in absurd (omega (arith, h))

-- the first line, and those behind it
pub shown_step : (bytes : List ℕ) → (length bytes == 0) ≡ false → loaded_text bytes ≡ loaded_line (take 32 bytes) ++ loaded_text (drop 32 bytes)
shown_step [] e = absurd (cc)
shown_step (b ∷ bytes) e =
    let less : length (drop 32 (b ∷ bytes)) ≡ length (b ∷ bytes) - 32 = length-drop 32 (b ∷ bytes) in
    shown_cons (length bytes) b bytes
    ∙ ap (λ (xs : List ℕ). loaded_line (take 32 (b ∷ bytes)) ++ xs) (enough (length bytes) (length (drop 32 (b ∷ bytes))) (drop 32 (b ∷ bytes)) (omega (arith, less)) (omega arith))

-- what was appended in four pieces
pub four_put : (o0 o1 o2 o3 o4 a h s t : List ℕ) → o1 ≡ o0 ++ a → o2 ≡ o1 ++ h → o3 ≡ o2 ++ s → o4 ≡ o3 ++ t → o4 ≡ o0 ++ ((a ++ (h ++ s)) ++ t)
four_put o0 o1 o2 o3 o4 a h s t e1 e2 e3 e4 =
    e4 ∙ ap (λ (xs : List ℕ). xs ++ t) (e3 ∙ ap (λ (xs : List ℕ). xs ++ s) (e2 ∙ ap (λ (xs : List ℕ). xs ++ h) e1)) ∙ simp append_assoc
