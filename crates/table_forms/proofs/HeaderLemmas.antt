-- Lemmas on the words of headers.
use Rattle.std.proofs.Common.{◌≡◌, ℕ, ◌-◌, ◌≤◌, true, false, List, [], ◌∷◌, ◌++◌, length, take, drop, refl, ap, sym, ◌∙◌, arith, None, length-take, length-drop, length-append}
use Rattle.std.specs.Prelude.{◌==◌, nat_le, replicate, Result, Ok, Err}
use Rattle.std.proofs.Math.Seq.{drop-length}
use Rattle.std.proofs.lemmas.Bool.Decides.{nat_tests}
use Rattle.row_forms.specs.declared.field.Field.{Field}
use Rattle.row_forms.specs.declared.field.Field.TheVariants.{Value, Zeros, Check}
use Rattle.row_forms.specs.declared.field.Kind.TheVariants.{Number, Name, Block, Expression}
use Rattle.row_forms.specs.declared.field.Spelling.{Spelling}
use Rattle.row_forms.specs.declared.field.Width.{Width}
use Rattle.row_forms.specs.declared.fault.RowFault.{RowFault}
use Rattle.row_forms.specs.declared.fault.ReadError as row_read
use Rattle.row_forms.specs.declared.fault.ReadError.TheVariants as row_errors
use Rattle.row_forms.specs.Numbers.{bytes_of}
use Rattle.row_forms.specs.Values.{can_show}
use Rattle.row_forms.specs.Rows.{with_front, row_said, is_row, Gives}
use Rattle.row_forms.proofs.TextLemmas.{and_both}
use Rattle.table_forms.specs.declared.fault.TableFault.TheVariants as faults
use Rattle.table_forms.specs.declared.fault.ReadError.{ReadError}
use Rattle.table_forms.specs.Layouts.{is_open, shows_all}
use Rattle.table_forms.specs.Headers.{whole_header, header_said, header_of}
use Rattle.table_forms.specs.Payloads.{row_error, GivesTable}
use Rattle.table_forms.proofs.PayloadLemmas.{open_is, row_fault_is}

pub header_none : (fs : List Field) (n : ℕ) (ws : List (List ℕ)) → ws ≡ [] → header_said fs n ws ≡ Ok (replicate 60 0)
unfolding header_said
header_none fs n ws e = rw e refl

pub header_zeros : (fs : List Field) (n : ℕ) (ws : List (List ℕ)) (old new : List ℕ) → ws ≡ [] → old ≡ [] → new ≡ old ++ replicate 60 0 → header_said fs n ws ≡ Ok new
header_zeros fs n ws old new none empty e = header_none fs n ws none ∙ ap Ok (sym (e ∙ ap (λ (xs : List ℕ). xs ++ replicate 60 0) empty))

pub header_row : (fs : List Field) (n : ℕ) (ws : List (List ℕ)) (w : List ℕ) (more : List (List ℕ)) → ws ≡ w ∷ more → header_said fs n ws ≡ whole_header n (row_said None 3 fs ws)
unfolding header_said
header_row fs n ws w more e = rw e refl

pub no_front : {E : Type 0} (old : List ℕ) (r : Result (List ℕ) E) → old ≡ [] → with_front old r ≡ r
no_front old (Ok bytes) e = rw e refl
no_front old (Err fault) e = refl

pub whole_ok : (n : ℕ) (row : List ℕ) → length row ≡ 60 → whole_header n (Ok row) ≡ Ok row
whole_ok n row e = let is : (length row == 60) ≡ true = grind (arith, nat_tests) in rw is refl

whole_other : (n : ℕ) (row : List ℕ) → (length row == 60) ≡ false → whole_header n (Ok row) ≡ Err (faults.Description n)
whole_other n row e = rw e refl

pub header_ok : (fs : List Field) (n : ℕ) (ws : List (List ℕ)) (w : List ℕ) (more : List (List ℕ)) (old new : List ℕ) → ws ≡ w ∷ more → old ≡ [] → with_front old (row_said None 3 fs ws) ≡ Ok new → length new ≡ 60 → header_said fs n ws ≡ Ok new
header_ok fs n ws w more old new e none said long =
    header_row fs n ws w more e ∙ ap (whole_header n) (sym (no_front old (row_said None 3 fs ws) none) ∙ said) ∙ whole_ok n new long

pub header_other : (fs : List Field) (n : ℕ) (ws : List (List ℕ)) (w : List ℕ) (more : List (List ℕ)) (old new : List ℕ) → ws ≡ w ∷ more → old ≡ [] → with_front old (row_said None 3 fs ws) ≡ Ok new → (length new == 60) ≡ false → header_said fs n ws ≡ Err (faults.Description n)
header_other fs n ws w more old new e none said other =
    header_row fs n ws w more e ∙ ap (whole_header n) (sym (no_front old (row_said None 3 fs ws) none) ∙ said) ∙ whole_other n new other

pub header_refused : (fs : List Field) (n : ℕ) (ws : List (List ℕ)) (w : List ℕ) (more : List (List ℕ)) (old mid new : List ℕ) (bad : row_read.ReadError) (fault : RowFault) (r : ReadError) → ws ≡ w ∷ more → old ≡ [] → bad ≡ row_errors.Row fault → Gives (with_front old (row_said None 3 fs ws)) mid (Err bad) → r ≡ row_error n fault → GivesTable (header_said fs n ws) new (Err r)
header_refused fs n ws w more old mid new bad fault r e none kind given error =
    let said = row_fault_is (with_front old (row_said None 3 fs ws)) mid bad fault kind given in
    rw error (header_row fs n ws w more e ∙ ap (whole_header n) (sym (no_front old (row_said None 3 fs ws) none) ∙ said))

-- ---- bytes that are all a row

number_shows : (w : Width) (s : Spelling) (bytes : List ℕ) → bytes_of w ≤ length bytes → can_show (Number w s) (take (bytes_of w) bytes) ≡ true
unfolding can_show
number_shows w s bytes room =
    let long : length (take (bytes_of w) bytes) ≡ bytes_of w = simp length-take (omega (arith, room)) in
    grind (arith, nat_tests, long)

pub open_row : (fs : List Field) (bytes : List ℕ) → shows_all fs (length bytes) ≡ true → is_row fs bytes ≡ true
unfolding is_row shows_all can_show
open_row [] bytes e = e
open_row (Value key (Number w s) ∷ fs) bytes e =
    let both = and_both (nat_le (bytes_of w) (length bytes)) (shows_all fs (length bytes - bytes_of w)) e in
    let long : length (drop (bytes_of w) bytes) ≡ length bytes - bytes_of w = length-drop (bytes_of w) bytes in
    let rest = open_row fs (drop (bytes_of w) bytes) (rw long both.1) in
    let room : bytes_of w ≤ length bytes = grind (arith, nat_tests, both) in
    let here = number_shows w s bytes room in
    rw (both.0, here, rest) refl
open_row (Value key Name ∷ fs) bytes e = absurd (let wrong : false ≡ true = e in cc)
open_row (Value key Block ∷ fs) bytes e =
    let room : nat_le (length bytes) (length bytes) ≡ true = grind (arith, nat_tests) in
    let none : drop (length bytes) bytes ≡ [] = drop-length bytes in
    let rest : is_row fs (drop (length bytes) bytes) ≡ true = rw none (open_row fs [] e) in
    rw (room, rest) refl
open_row (Value key (Expression words) ∷ fs) bytes e = absurd (let wrong : false ≡ true = e in cc)
open_row (Zeros count ∷ fs) bytes e = absurd (let wrong : false ≡ true = e in cc)
open_row (Check ∷ fs) bytes e = absurd (let wrong : false ≡ true = e in cc)

pub header_long : (bytes : List ℕ) → 60 ≤ length bytes → length (header_of bytes) ≡ 60
header_long bytes room =
    let a : length (take 24 bytes) ≡ 24 = simp length-take (omega (arith, room)) in
    let l56 : length (drop 56 bytes) ≡ length bytes - 56 = length-drop 56 bytes in
    let l24 : length (drop 24 bytes) ≡ length bytes - 24 = length-drop 24 bytes in
    let b : length (take 4 (drop 56 bytes)) ≡ 4 = simp length-take (omega (arith, room, l56)) in
    let c : length (take 32 (drop 24 bytes)) ≡ 32 = simp length-take (omega (arith, room, l24)) in
    rw (length-append, length-append, a, b, c) refl

pub header_is_row : (fs : List Field) (bytes row : List ℕ) → is_open fs 60 ≡ true → 60 ≤ length bytes → row ≡ header_of bytes → is_row fs row ≡ true
header_is_row fs bytes row good room is =
    let long : length row ≡ 60 = ap (λ (xs : List ℕ). length xs) is ∙ header_long bytes room in
    open_row fs row (rw long (open_is fs 60 good).all)
