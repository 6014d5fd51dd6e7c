-- Lemmas on files that are shown and read back.
use Rattle.std.proofs.Common.{◌≡◌, ℕ, ◌+◌, ◌-◌, ◌*◌, ◌<◌, Bool, true, false, List, [], ◌∷◌, ◌++◌, length, take, drop, Option, Some, None, refl, ap, sym, ◌∙◌, arith, append_assoc, length-take, length-drop, replicate}
use Rattle.std.specs.Prelude.{codes, ◌==◌, Result, Ok}
use Rattle.std.specs.List.{AllByRecursion, list_all}
use Rattle.std.proofs.lemmas.Bool.Decides.{nat_tests}
use Rattle.std.proofs.lemmas.List.{take-append-drop}
use Rattle.row_forms.specs.declared.field.Field.{Field}
use Rattle.row_forms.specs.declared.field.Field.TheVariants.{Value, Zeros, Check}
use Rattle.row_forms.specs.declared.fault.RowFault.{RowFault}
use Rattle.row_forms.specs.Values.{width, value_shown}
use Rattle.row_forms.specs.Rows.{row_said, row_words, word_shown, spaced}
use Rattle.row_forms.proofs.TextLemmas.{all_append, IsWord, spaced_nil, spaced_cons}
use Rattle.row_forms.proofs.BackLemmas.{zeros_are, all_drop, row_back, row_words_are, key_plain}
use Rattle.telecommands.specs.Commands.{are_good, are_distinct}
use Rattle.table_files.specs.declared.kinds.TableKind.{TableKind}
use Rattle.table_files.specs.Kinds.{IsKnown}
use Rattle.table_files.specs.Headers.{kind_of_file}
use Rattle.table_files.proofs.Accepted.{no_fault}
use Rattle.table_forms.specs.Judging.{unless_refused, judged, IsTaken}
use Rattle.table_forms.proofs.JudgingLemmas.{table_taken}
use Rattle.table_files.proofs.Accepted.{kind_known}
use Rattle.table_texts.specs.declared.layout.Layout.{Layout}
use Rattle.table_texts.specs.Lines.{kept_of}
use Rattle.table_texts.specs.Entries.{is_layout}
use Rattle.table_texts.specs.Shown.{entries_shown}
use Rattle.table_texts.proofs.BackLemmas.{kept_line, entries_back}
use Rattle.table_texts.proofs.SequenceBackLemmas as sequences
use Rattle.table_forms.specs.declared.fault.TableFault.{TableFault}
use Rattle.table_forms.specs.declared.forms.TextForms.{TextForms}
use Rattle.table_forms.specs.declared.layouts.PayloadForm.{PayloadForm}
use Rattle.table_forms.specs.declared.layouts.PayloadForm.TheVariants.{Entries, Headed, Sequence}
use Rattle.table_forms.specs.Headers.{whole_header, header_said, header_of, header_shown, table_file}
use Rattle.table_forms.specs.Layouts.{form_of, shows_all, are_layouts}
use Rattle.table_forms.specs.Names.{name_of}
use Rattle.table_forms.specs.Payloads.{is_form, as_table, entries_by, head_then, headed_said, payload_said, payload_text, FitsForm}
use Rattle.table_forms.specs.Reading.{filed, first_filed, file_said, table_said, file_text}
use Rattle.table_forms.proofs.BytesLemmas.{all_take, file_back}
use Rattle.table_forms.proofs.FileLemmas.{headers_are, payload_fits}
use Rattle.table_forms.proofs.HeaderLemmas.{open_row, header_none, header_row, header_long, whole_ok}
use Rattle.table_forms.proofs.KnownLemmas.{name_said, name_marks, name_some}
use Rattle.table_forms.proofs.LayoutsLemmas.{layouts_are, form_is}
use Rattle.table_forms.proofs.PayloadLemmas.{IsOpen, open_is, headed_row}
use Rattle.table_forms.proofs.ReadingLemmas.{first_kind}

abbrev AreBytes : List ℕ → Type 0
AreBytes bytes = AllByRecursion (λ b. b < 256) bytes

-- ---- payloads

rows_back : (f : TextForms) (l : Layout) (n : ℕ) (bytes : List ℕ) → are_good f.commands.now ≡ true → are_distinct f.commands.now ≡ true → is_layout l ≡ true → length bytes ≡ l.count * l.size → AreBytes bytes → entries_by f l n (kept_of n (entries_shown f.commands.now l l.count 1 bytes)) ≡ Ok bytes
rows_back f l n bytes good distinct layout long all = ap as_table (entries_back f.epoch f.commands.now l n bytes good distinct layout all long)

head_word : IsWord (codes "head")
head_word = (omega arith, (omega arith, (omega arith, (omega arith, (omega arith, tt)))))

then_ok : (n : ℕ) (head bytes : List ℕ) (r : Result (List ℕ) RowFault) (said : Result (List ℕ) TableFault) → r ≡ Ok head → said ≡ Ok bytes → head_then n r said ≡ Ok (head ++ bytes)
then_ok n head bytes r said a b = rw (a, b) refl

heads_back : (f : TextForms) (l : Layout) (n : ℕ) (payload : List ℕ) → are_good f.commands.now ≡ true → are_distinct f.commands.now ≡ true → is_layout l ≡ true → IsOpen f.layouts.now.head.now 4 → length payload ≡ 4 + l.count * l.size → AreBytes payload
    → headed_said f l n (kept_of n (payload_text f (Headed l) payload)) ≡ Ok payload
heads_back f l n payload good distinct layout head long all =
    let fs = f.layouts.now.head.now in
    let first = take 4 payload in
    let four : length first ≡ 4 = simp length-take (omega (arith, long)) in
    let left : length (drop 4 payload) ≡ length payload - 4 = length-drop 4 payload in
    let bytes = all_take (λ b. b < 256) 4 payload all in
    let row = open_row fs first (rw four head.all) in
    let words = row_words fs first in
    let behind = entries_shown f.commands.now l l.count 1 (drop 4 payload) in
    let lines = kept_line n (codes "head") words behind head_word (row_words_are fs first head.fields bytes row) refl in
    let rest = rows_back f l (n + 1) (drop 4 payload) good distinct layout (omega (arith, left, long)) (all_drop (λ b. b < 256) 4 payload all) in
    headed_row f l n n (codes "head" ∷ words) (kept_of n (payload_text f (Headed l) payload)) (kept_of (n + 1) behind) lines refl
    ∙ then_ok n first (drop 4 payload) (row_said f.epoch 2 fs words) (entries_by f l (n + 1) (kept_of (n + 1) behind)) (row_back f.epoch 2 fs first head.fields bytes row) rest
    ∙ ap Ok (take-append-drop 4 payload)

payload_back : (f : TextForms) (form : PayloadForm) (n : ℕ) (payload : List ℕ) → are_good f.commands.now ≡ true → are_distinct f.commands.now ≡ true → is_form form ≡ true → IsOpen f.layouts.now.head.now 4 → FitsForm form (length payload) → AreBytes payload
    → payload_said f form n (kept_of n (payload_text f form payload)) ≡ Ok payload
unfolding is_form
payload_back f (Entries l) n payload good distinct form head fits all = rows_back f l n payload good distinct form fits all
payload_back f (Headed l) n payload good distinct form head fits all = heads_back f l n payload good distinct form head fits all
payload_back f (Sequence fs size) n payload good distinct form head fits all = ap as_table (sequences.payload_back f.epoch f.commands.now fs.now size n payload good distinct form all)

-- ---- headers

-- words that say a header
record SaysHeader (fs : List Field) (n : ℕ) (row : List ℕ) : Type 0 where
  words : List (List ℕ)
  text : header_shown fs row ≡ spaced words
  all : AllByRecursion IsWord words
  said : header_said fs n words ≡ Ok row

first_word : (fs : List Field) (row : List ℕ) → shows_all fs 60 ≡ true → (w : List ℕ) × (more : List (List ℕ)) × (row_words fs row ≡ w ∷ more)
unfolding shows_all row_words
first_word [] row e = absurd (let wrong : false ≡ true = e in cc)
first_word (Value key kind ∷ fs) row e = (word_shown key.now (value_shown kind (take (width kind row) row)), row_words fs (drop (width kind row) row), refl)
first_word (Zeros count ∷ fs) row e = absurd (let wrong : false ≡ true = e in cc)
first_word (Check ∷ fs) row e = absurd (let wrong : false ≡ true = e in cc)

header_by : (fs : List Field) (n : ℕ) (row : List ℕ) → IsOpen fs 60 → length row ≡ 60 → AreBytes row → (b : Bool) → list_all (λ x. x == 0) row ≡ b → SaysHeader fs n row
header_by fs n row any long all true zeros = record {
  words = [];
  text = rw zeros (sym spaced_nil);
  all = tt;
  said = header_none fs n [] refl ∙ ap (λ (k : ℕ). Ok (replicate k 0)) (sym long) ∙ ap Ok (sym (zeros_are row zeros));
}
header_by fs n row any long all false some =
    let is = open_row fs row (rw long any.all) in
    let first = first_word fs row any.all in
    record {
      words = row_words fs row;
      text = rw some refl;
      all = row_words_are fs row any.fields all is;
      said = header_row fs n (row_words fs row) first.0 first.1 first.2 ∙ ap (whole_header n) (row_back None 3 fs row any.fields all is) ∙ whole_ok n row long;
    }

header_bytes : (b : List ℕ) → AreBytes b → AreBytes (header_of b)
header_bytes b all =
    let a = all_take (λ x. x < 256) 24 b all in
    let c = all_take (λ x. x < 256) 4 (drop 56 b) (all_drop (λ x. x < 256) 56 b all) in
    let d = all_take (λ x. x < 256) 32 (drop 24 b) (all_drop (λ x. x < 256) 24 b all) in
    all_append (λ x. x < 256) (take 24 b) (take 4 (drop 56 b) ++ take 32 (drop 24 b)) a (all_append (λ x. x < 256) (take 4 (drop 56 b)) (take 32 (drop 24 b)) c d)

-- ---- whole files

table_word : IsWord (codes "table")
table_word = (omega arith, (omega arith, (omega arith, (omega arith, (omega arith, (omega arith, tt))))))

name_word : (kind : TableKind) → IsKnown kind → IsWord (name_of kind)
name_word kind known = let some = name_some kind known in (grind (arith, nat_tests, some), key_plain (name_of kind) (name_marks kind known))

first_text : (name shown : List ℕ) (words : List (List ℕ)) (rest : List ℕ) → shown ≡ spaced words → ((codes "table " ++ (name ++ shown)) ++ 10 ∷ []) ++ rest ≡ (codes "table" ++ spaced (name ∷ words)) ++ 10 ∷ rest
first_text name shown words rest e =
    append_assoc (codes "table " ++ (name ++ shown)) (10 ∷ []) rest
    ∙ ap (λ (xs : List ℕ). (codes "table" ++ xs) ++ 10 ∷ rest) (ap (λ (xs : List ℕ). 32 ∷ (name ++ xs)) e ∙ sym (spaced_cons name words))

filed_ok : (kind : TableKind) (row payload : List ℕ) (header said : Result (List ℕ) TableFault) → header ≡ Ok row → said ≡ Ok payload → filed kind header said ≡ Ok (table_file kind row payload)
filed_ok kind row payload header said a b = rw (a, b) refl

-- the text of a table's file says it
pub files_back : (f : TextForms) (kind : TableKind) (file : List ℕ) → are_good f.commands.now ≡ true → are_distinct f.commands.now ≡ true → are_layouts f.layouts.now ≡ true → AreBytes file → kind_of_file file ≡ Some kind → file_said f (file_text f kind file) ≡ Ok file
files_back f kind file good distinct layouts all is =
    let are = layouts_are f.layouts.now layouts in
    let headers = headers_are file kind is in
    let known = kind_known file kind is in
    let long = headers.long in
    let form = form_of f.layouts.now kind in
    let payload = drop 116 file in
    let left : length (drop 8 file) ≡ length file - 8 = length-drop 8 file in
    let row = header_of (drop 8 file) in
    let sixty = header_long (drop 8 file) (omega (arith, long, left)) in
    let bytes = header_bytes (drop 8 file) (all_drop (λ b. b < 256) 8 file all) in
    let says = header_by f.layouts.now.header.now 1 row (open_is _ _ are.header) sixty bytes (list_all (λ x. x == 0) row) refl in
    let behind = payload_text f form payload in
    let lines = ap (kept_of 1) (first_text (name_of kind) (header_shown f.layouts.now.header.now row) says.words behind says.text)
    ∙ kept_line 1 (codes "table") (name_of kind ∷ says.words) behind table_word (name_word kind known, says.all) refl in
    let first = first_kind 1 (codes "table" ∷ name_of kind ∷ says.words) (name_of kind ∷ says.words) says.words (name_of kind) (kept_of 1 (file_text f kind file)) (kept_of 2 behind) (Some kind) lines refl refl refl (sym (name_said kind known)) in
    let said = payload_back f form 2 payload good distinct (form_is f.layouts.now kind are) (open_is _ _ are.head) (payload_fits f.layouts.now kind file payload are is refl) (all_drop (λ b. b < 256) 116 file all) in
    ap (first_filed f) first
    ∙ filed_ok kind row payload (header_said f.layouts.now.header.now 1 says.words) (payload_said f form 2 (kept_of 2 behind)) says.said said
    ∙ ap Ok (file_back file kind all headers)

-- the text of a file that is taken is taken
pub taken_back : (f : TextForms) (kind : TableKind) (file : List ℕ) → are_good f.commands.now ≡ true → are_distinct f.commands.now ≡ true → are_layouts f.layouts.now ≡ true → AreBytes file → IsTaken file kind → table_said f (file_text f kind file) ≡ Ok file
taken_back f kind file good distinct layouts all taken =
    let well = no_fault file kind (headers_are file kind taken.0) in
    let none = table_taken file kind _ well taken.0 refl (sym taken.1) in
    ap judged (files_back f kind file good distinct layouts all taken.0) ∙ ap (λ (r : Option TableFault). unless_refused r file) (sym none)
