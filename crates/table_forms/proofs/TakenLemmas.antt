-- Lemmas on files that texts say, and that are taken.
use Rattle.std.proofs.Common.{◌≡◌, ℕ, ◌+◌, Bool, true, false, List, [], ◌∷◌, length, Option, Some, None, refl, ap, sym, ◌∙◌, arith, replicate}
use Rattle.std.specs.Prelude.{codes, ◌==◌, Result, Ok, Err}
use Rattle.std.proofs.lemmas.Bool.Decides.{nat_tests}
use Rattle.row_forms.specs.declared.field.Field.{Field}
use Rattle.row_forms.specs.declared.fault.RowFault.{RowFault}
use Rattle.row_forms.specs.Rows.{row_said}
use Rattle.table_files.specs.declared.fault.EntryFault.{EntryFault}
use Rattle.table_files.specs.declared.fault.FileFault.{FileFault}
use Rattle.table_files.specs.declared.kinds.TableKind.{TableKind}
use Rattle.table_files.specs.Kinds.{IsKnown}
use Rattle.table_files.specs.Headers.{file_fault_of, kind_of_file, payload_of_file}
use Rattle.table_texts.specs.Lines.{Numbered, kept_of}
use Rattle.table_texts.specs.Endings.{behind_first}
use Rattle.table_forms.specs.declared.fault.TableFault.{TableFault}
use Rattle.table_forms.specs.declared.forms.TextForms.{TextForms}
use Rattle.table_forms.specs.Headers.{whole_header, header_said, table_file}
use Rattle.table_forms.specs.Judging.{entry_fault_of, entry_refusal, kind_refusal, refusal_by, refusal_of, unless_refused, judged}
use Rattle.table_forms.specs.Layouts.{form_of}
use Rattle.table_forms.specs.Names.{kind_said}
use Rattle.table_forms.specs.Payloads.{begins, payload_said}
use Rattle.table_forms.specs.Reading.{First, kind_first, named_first, first_said, filed, first_filed, file_said, table_said, IsTakenAs}
use Rattle.table_forms.proofs.BytesLemmas.{made_kind}
use Rattle.table_forms.proofs.NameLemmas.{said_known}

-- ---- what is judged

-- a file that no reader refuses
record IsUnrefused (file : List ℕ) : Type 0 where
  well : file_fault_of file ≡ None
  entries : kind_refusal (kind_of_file file) (payload_of_file file) ≡ None

by_fault : (file : List ℕ) (o : Option FileFault) → file_fault_of file ≡ o → refusal_by o file ≡ None → IsUnrefused file
by_fault file None e none = record { well = e; entries = none }
by_fault file (Some fault) e none = absurd (cc)

unrefused : (file : List ℕ) → refusal_of file ≡ None → IsUnrefused file
unfolding refusal_of
unrefused file none = by_fault file (file_fault_of file) refl none

no_entry_fault : (kind : TableKind) (o : Option EntryFault) → entry_refusal kind o ≡ None → o ≡ None
no_entry_fault kind None e = refl
no_entry_fault kind (Some fault) e = absurd (cc)

taken_by : (file : List ℕ) (kind : TableKind) (o : Option TableKind) → o ≡ Some kind → kind_refusal o (payload_of_file file) ≡ None → entry_fault_of kind (payload_of_file file) ≡ None
taken_by file kind None is none = absurd (cc)
taken_by file kind (Some k) is none =
    let same : k ≡ kind = cc in
    ap (λ (j : TableKind). entry_fault_of j (payload_of_file file)) (sym same) ∙ no_entry_fault k (entry_fault_of k (payload_of_file file)) none

record IsJudged (r : Result (List ℕ) TableFault) (file : List ℕ) : Type 0 where
  said : r ≡ Ok file
  taken : refusal_of file ≡ None

judged_by : (x file : List ℕ) (o : Option TableFault) → refusal_of x ≡ o → unless_refused o x ≡ Ok file → IsJudged (Ok x) file
judged_by x file None e is = let same : x ≡ file = cc in record { said = ap Ok same; taken = ap refusal_of (sym same) ∙ e }
judged_by x file (Some fault) e is = absurd (cc)

judged_is : (r : Result (List ℕ) TableFault) (file : List ℕ) → judged r ≡ Ok file → IsJudged r file
judged_is (Ok x) file e = judged_by x file (refusal_of x) refl e
judged_is (Err fault) file e = absurd (cc)

-- ---- what is said

record IsFiled (kind : TableKind) (header : Result (List ℕ) TableFault) (file : List ℕ) : Type 0 where
  row : List ℕ
  payload : List ℕ
  header_is : header ≡ Ok row
  file_is : table_file kind row payload ≡ file

ok_same : (a b : List ℕ) → ◌≡◌ {A = Result (List ℕ) TableFault} (Ok a) (Ok b) → a ≡ b
ok_same a b e = cc

filed_is : (kind : TableKind) (header said : Result (List ℕ) TableFault) (file : List ℕ) → filed kind header said ≡ Ok file → IsFiled kind header file
filed_is kind (Ok row) (Ok payload) file e = record { row = row; payload = payload; header_is = refl; file_is = ok_same (table_file kind row payload) file e }
filed_is kind (Ok row) (Err fault) file e = absurd (let wrong : Err fault ≡ Ok file = e in cc)
filed_is kind (Err fault) said file e = absurd (let wrong : Err fault ≡ Ok file = e in cc)

whole_size : (n : ℕ) (x row : List ℕ) (b : Bool) → (length x == 60) ≡ b → whole_header n (Ok x) ≡ Ok row → length row ≡ 60
whole_size n x row true e is =
    let said : whole_header n (Ok x) ≡ Ok x = rw e refl in
    let same : x ≡ row = ok_same x row (sym said ∙ is) in
    rw (← same) (grind (arith, nat_tests, e))
whole_size n x row false e is = absurd (let said : whole_header n (Ok x) ≡ Ok row = is in let other = rw e at said in cc)

whole_long : (n : ℕ) (r : Result (List ℕ) RowFault) (row : List ℕ) → whole_header n r ≡ Ok row → length row ≡ 60
whole_long n (Ok x) row is = whole_size n x row (length x == 60) refl is
whole_long n (Err fault) row is = absurd (cc)

header_size : (fs : List Field) (n : ℕ) (ws : List (List ℕ)) (row : List ℕ) → header_said fs n ws ≡ Ok row → length row ≡ 60
unfolding header_said
header_size fs n [] row is = let same : replicate 60 0 ≡ row = ok_same (replicate 60 0) row is in rw (← same) refl
header_size fs n (w ∷ ws) row is = whole_long n (row_said None 3 fs (w ∷ ws)) row is

-- ---- the first line

abbrev kind_or : Result First TableFault → Option TableKind
kind_or (Ok first) = Some first.kind
kind_or (Err fault) = None

known_kind : (n : ℕ) (o : Option TableKind) (ws : List (List ℕ)) (more : List Numbered) (first : First) → kind_first n o ws more ≡ Ok first → o ≡ Some first.kind
known_kind n None ws more first e = absurd (cc)
known_kind n (Some kind) ws more first e = ap kind_or e

known_name : (n : ℕ) (ws : List (List ℕ)) (more : List Numbered) (first : First) → named_first n ws more ≡ Ok first → IsKnown first.kind
known_name n [] more first e = absurd (cc)
known_name n (w ∷ ws) more first e = (said_known w first.kind (known_kind n (kind_said w) ws more first e)).0

first_known : (lines : List Numbered) (first : First) → first_said lines ≡ Ok first → IsKnown first.kind
unfolding first_said
first_known [] first e = absurd (cc)
first_known (line ∷ more) first e = by_word (begins (codes "table") line.words) refl
  where
    by_word : (b : Bool) → begins (codes "table") line.words ≡ b → IsKnown first.kind
    by_word true here = known_name line.number (behind_first line.words) more first (rw here at e)
    by_word false here = absurd (let other = rw here at e in cc)

taken_is : (f : TextForms) (said : Result First TableFault) (file : List ℕ) → ((first : First) → said ≡ Ok first → IsKnown first.kind) → judged (first_filed f said) ≡ Ok file → IsTakenAs said file
taken_is f (Err fault) file known e = let wrong : ⊥ = cc in wrong
taken_is f (Ok first) file known e =
    let judged = judged_is (first_filed f (Ok first)) file e in
    let made = filed_is first.kind (header_said f.layouts.now.header.now first.number first.words) (payload_said f (form_of f.layouts.now first.kind) (first.number + 1) first.more) file judged.said in
    let long = header_size f.layouts.now.header.now first.number first.words made.row made.header_is in
    let open_file = unrefused file judged.taken in
    let well : file_fault_of (table_file first.kind made.row made.payload) ≡ None = ap file_fault_of made.file_is ∙ open_file.well in
    let kind : kind_of_file file ≡ Some first.kind = ap kind_of_file (sym made.file_is) ∙ made_kind first.kind made.row made.payload (known first refl) long well in
    (kind, taken_by file first.kind (kind_of_file file) kind open_file.entries)

-- a file that is read is taken as the table that its text names
pub texts_are_taken : (f : TextForms) (text file : List ℕ) → table_said f text ≡ Ok file → IsTakenAs (first_said (kept_of 1 text)) file
texts_are_taken f text file e = taken_is f (first_said (kept_of 1 text)) file (first_known (kept_of 1 text)) e

pub said_taken : (f : TextForms) (text file bytes : List ℕ) (o : Option TableFault) → file_said f text ≡ Ok file → bytes ≡ file → o ≡ refusal_of bytes → o ≡ None → table_said f text ≡ Ok file
said_taken f text file bytes o said same is none = ap judged said ∙ ap (λ (r : Option TableFault). unless_refused r file) (ap refusal_of (sym same) ∙ sym is ∙ none)
