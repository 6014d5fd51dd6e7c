-- Lemmas on the words of headers.
use Rattle.std.proofs.Common.{◌≡◌, ℕ, ◌-◌, ◌<◌, ◌≤◌, Bool, true, false, List, [], ◌∷◌, ◌++◌, length, take, drop, None, refl, ap, sym, ◌∙◌, arith, length-take, length-drop, replicate}
use Rattle.std.specs.Prelude.{◌==◌, ◌&&◌, nat_lt, nat_le, Result, Ok, Err}
use Rattle.std.specs.List.{AllByRecursion, list_all}
use Rattle.std.proofs.Math.Seq.{drop-length}
use Rattle.std.proofs.lemmas.Bool.Decides.{nat_tests}
use Rattle.row_forms.specs.declared.field.Field.{Field}
use Rattle.row_forms.specs.declared.field.Field.TheVariants.{Value, Zeros, Check}
use Rattle.row_forms.specs.declared.field.Kind.TheVariants.{Number, Name, Block, Expression}
use Rattle.row_forms.specs.declared.field.Spelling.{Spelling}
use Rattle.row_forms.specs.declared.field.Width.{Width}
use Rattle.row_forms.specs.declared.fault.RowFault.{RowFault}
use Rattle.row_forms.specs.declared.fault.ReadError as row_read
use Rattle.row_forms.specs.declared.fault.ReadError.TheVariants as row_errors
use Rattle.row_forms.specs.Numbers.{bytes_of}
use Rattle.row_forms.specs.Values.{can_show, width, value_shown}
use Rattle.row_forms.specs.Rows.{with_front, row_said, row_words, is_row, are_fields, spaced, word_shown, Gives}
use Rattle.row_forms.proofs.TextLemmas.{and_both, IsWord, spaced_nil}
use Rattle.row_forms.proofs.BackLemmas.{zeros_are, row_back, row_words_are}
use Rattle.table_texts.specs.declared.fault.LineFault.TheVariants as line_faults
use Rattle.load_texts.specs.declared.fault.LoadFault.{LoadFault}
use Rattle.load_texts.specs.declared.fault.LoadFault.TheVariants as faults
use Rattle.load_texts.specs.declared.fault.ReadError.{ReadError}
use Rattle.load_texts.specs.Headers.{line_error, shows_all, is_header, whole_header, header_said, header_shown}
use Rattle.load_texts.specs.Loaded.{GivesLoaded}

-- fields of which any 60 bytes are a row
pub record IsHeader (fs : List Field) : Type 0 where
  pub short : length fs < 65536
  pub fields : are_fields fs ≡ true
  pub all : shows_all fs 60 ≡ true

pub header_is : (fs : List Field) → is_header fs ≡ true → IsHeader fs
unfolding is_header
header_is fs e =
    let a = and_both (nat_lt (length fs) 65536 && are_fields fs) (shows_all fs 60) e in
    let b = and_both (nat_lt (length fs) 65536) (are_fields fs) a.0 in
    record { short = grind (arith, nat_tests, b); fields = b.1; all = a.1 }

header_none : (fs : List Field) (n : ℕ) (ws : List (List ℕ)) → ws ≡ [] → header_said fs n ws ≡ Ok (replicate 60 0)
unfolding header_said
header_none fs n ws e = rw e refl

pub header_zeros : (fs : List Field) (n : ℕ) (ws : List (List ℕ)) (old new : List ℕ) → ws ≡ [] → old ≡ [] → new ≡ old ++ replicate 60 0 → header_said fs n ws ≡ Ok new
header_zeros fs n ws old new none empty e = header_none fs n ws none ∙ ap Ok (sym (e ∙ ap (λ (xs : List ℕ). xs ++ replicate 60 0) empty))

header_row : (fs : List Field) (n : ℕ) (ws : List (List ℕ)) (w : List ℕ) (more : List (List ℕ)) → ws ≡ w ∷ more → header_said fs n ws ≡ whole_header n (row_said None 3 fs ws)
unfolding header_said
header_row fs n ws w more e = rw e refl

pub no_front : {E : Type 0} (old : List ℕ) (r : Result (List ℕ) E) → old ≡ [] → with_front old r ≡ r
no_front old (Ok bytes) e = rw e refl
no_front old (Err fault) e = refl

whole_ok : (n : ℕ) (row : List ℕ) → length row ≡ 60 → whole_header n (Ok row) ≡ Ok row
whole_ok n row e = let is : (length row == 60) ≡ true = grind (arith, nat_tests) in rw is refl

whole_other : (n : ℕ) (row : List ℕ) → (length row == 60) ≡ false → whole_header n (Ok row) ≡ Err (faults.Description n)
whole_other n row e = rw e refl

pub header_ok : (fs : List Field) (n : ℕ) (ws : List (List ℕ)) (w : List ℕ) (more : List (List ℕ)) (old new : List ℕ) → ws ≡ w ∷ more → old ≡ [] → with_front old (row_said None 3 fs ws) ≡ Ok new → length new ≡ 60 → header_said fs n ws ≡ Ok new
header_ok fs n ws w more old new e none said long =
    header_row fs n ws w more e ∙ ap (whole_header n) (sym (no_front old (row_said None 3 fs ws) none) ∙ said) ∙ whole_ok n new long

pub header_other : (fs : List Field) (n : ℕ) (ws : List (List ℕ)) (w : List ℕ) (more : List (List ℕ)) (old new : List ℕ) → ws ≡ w ∷ more → old ≡ [] → with_front old (row_said None 3 fs ws) ≡ Ok new → (length new == 60) ≡ false → header_said fs n ws ≡ Err (faults.Description n)
header_other fs n ws w more old new e none said other =
    header_row fs n ws w more e ∙ ap (whole_header n) (sym (no_front old (row_said None 3 fs ws) none) ∙ said) ∙ whole_other n new other

row_fault_is : (said : Result (List ℕ) RowFault) (new : List ℕ) (e : row_read.ReadError) (fault : RowFault) → e ≡ row_errors.Row fault → Gives said new (Err e) → said ≡ Err fault
row_fault_is said new e fault is given = rw is at given

pub header_refused : (fs : List Field) (n : ℕ) (ws : List (List ℕ)) (w : List ℕ) (more : List (List ℕ)) (old mid new : List ℕ) (bad : row_read.ReadError) (fault : RowFault) (r : ReadError) → ws ≡ w ∷ more → old ≡ [] → bad ≡ row_errors.Row fault → Gives (with_front old (row_said None 3 fs ws)) mid (Err bad) → r ≡ line_error n (line_faults.Row fault) → GivesLoaded (header_said fs n ws) new (Err r)
header_refused fs n ws w more old mid new bad fault r e none kind given error =
    let said = row_fault_is (with_front old (row_said None 3 fs ws)) mid bad fault kind given in
    rw error (header_row fs n ws w more e ∙ ap (whole_header n) (sym (no_front old (row_said None 3 fs ws) none) ∙ said))

-- ---- bytes that are all a row

number_shows : (w : Width) (s : Spelling) (bytes : List ℕ) → bytes_of w ≤ length bytes → can_show (Number w s) (take (bytes_of w) bytes) ≡ true
unfolding can_show
number_shows w s bytes room =
    let long : length (take (bytes_of w) bytes) ≡ bytes_of w = simp length-take (omega (arith, room)) in
    grind (arith, nat_tests, long)

open_row : (fs : List Field) (bytes : List ℕ) → shows_all fs (length bytes) ≡ true → is_row fs bytes ≡ true
unfolding is_row shows_all can_show
open_row [] bytes e = e
open_row (Value key (Number w s) ∷ fs) bytes e =
    let both = and_both (nat_le (bytes_of w) (length bytes)) (shows_all fs (length bytes - bytes_of w)) e in
    let long : length (drop (bytes_of w) bytes) ≡ length bytes - bytes_of w = length-drop (bytes_of w) bytes in
    let rest = open_row fs (drop (bytes_of w) bytes) (rw long both.1) in
    let room : bytes_of w ≤ length bytes = grind (arith, nat_tests, both) in
    let here = number_shows w s bytes room in
    rw (both.0, here, rest) refl
open_row (Value key Name ∷ fs) bytes e = absurd (let wrong : false ≡ true = e in cc)
open_row (Value key Block ∷ fs) bytes e =
    let room : nat_le (length bytes) (length bytes) ≡ true = grind (arith, nat_tests) in
    let none : drop (length bytes) bytes ≡ [] = drop-length bytes in
    let rest : is_row fs (drop (length bytes) bytes) ≡ true = rw none (open_row fs [] e) in
    rw (room, rest) refl
open_row (Value key (Expression words) ∷ fs) bytes e = absurd (let wrong : false ≡ true = e in cc)
open_row (Zeros count ∷ fs) bytes e = absurd (let wrong : false ≡ true = e in cc)
open_row (Check ∷ fs) bytes e = absurd (let wrong : false ≡ true = e in cc)

pub sixty_row : (fs : List Field) (row : List ℕ) → IsHeader fs → length row ≡ 60 → is_row fs row ≡ true
sixty_row fs row any long = open_row fs row (rw long any.all)

-- ---- words that say a header

pub record SaysHeader (fs : List Field) (n : ℕ) (row : List ℕ) : Type 0 where
  pub words : List (List ℕ)
  pub text : header_shown fs row ≡ spaced words
  pub all : AllByRecursion IsWord words
  pub said : header_said fs n words ≡ Ok row

first_word : (fs : List Field) (row : List ℕ) → shows_all fs 60 ≡ true → (w : List ℕ) × (more : List (List ℕ)) × (row_words fs row ≡ w ∷ more)
unfolding shows_all row_words
first_word [] row e = absurd (let wrong : false ≡ true = e in cc)
first_word (Value key kind ∷ fs) row e = (word_shown key.now (value_shown kind (take (width kind row) row)), row_words fs (drop (width kind row) row), refl)
first_word (Zeros count ∷ fs) row e = absurd (let wrong : false ≡ true = e in cc)
first_word (Check ∷ fs) row e = absurd (let wrong : false ≡ true = e in cc)

pub header_by : (fs : List Field) (n : ℕ) (row : List ℕ) → IsHeader fs → length row ≡ 60 → AllByRecursion (λ b. b < 256) row → (b : Bool) → list_all (λ x. x == 0) row ≡ b → SaysHeader fs n row
header_by fs n row any long all true zeros = record {
  words = [];
  text = rw zeros (sym spaced_nil);
  all = tt;
  said = header_none fs n [] refl ∙ ap (λ (k : ℕ). Ok (replicate k 0)) (sym long) ∙ ap Ok (sym (zeros_are row zeros));
}
header_by fs n row any long all false some =
    let is = sixty_row fs row any long in
    let first = first_word fs row any.all in
    record {
      words = row_words fs row;
      text = rw some refl;
      all = row_words_are fs row any.fields all is;
      said = header_row fs n (row_words fs row) first.0 first.1 first.2 ∙ ap (whole_header n) (row_back None 3 fs row any.fields all is) ∙ whole_ok n row long;
    }

-- ---- the size of a header

ok_same : (a b : List ℕ) → ◌≡◌ {A = Result (List ℕ) LoadFault} (Ok a) (Ok b) → a ≡ b
ok_same a b e = cc

whole_size : (n : ℕ) (x row : List ℕ) (b : Bool) → (length x == 60) ≡ b → whole_header n (Ok x) ≡ Ok row → length row ≡ 60
whole_size n x row true e is =
    let said : whole_header n (Ok x) ≡ Ok x = rw e refl in
    let same : x ≡ row = ok_same x row (sym said ∙ is) in
    rw (← same) (grind (arith, nat_tests, e))
whole_size n x row false e is = absurd (let said : whole_header n (Ok x) ≡ Ok row = is in let other = rw e at said in cc)

whole_long : (n : ℕ) (r : Result (List ℕ) RowFault) (row : List ℕ) → whole_header n r ≡ Ok row → length row ≡ 60
whole_long n (Ok x) row is = whole_size n x row (length x == 60) refl is
whole_long n (Err fault) row is = absurd (cc)

pub header_size : (fs : List Field) (n : ℕ) (ws : List (List ℕ)) (row : List ℕ) → header_said fs n ws ≡ Ok row → length row ≡ 60
unfolding header_said
header_size fs n [] row is = let same : replicate 60 0 ≡ row = ok_same (replicate 60 0) row is in rw (← same) refl
header_size fs n (w ∷ ws) row is = whole_long n (row_said None 3 fs (w ∷ ws)) row is
