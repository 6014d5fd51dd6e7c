-- Lemmas on heads, and on what stands behind them.
use Rattle.std.proofs.Common.{◌≡◌, ℕ, ◌+◌, ◌<◌, true, false, List, [], ◌∷◌, ◌++◌, length, refl, ap, sym, ◌∙◌, arith, append_assoc}
use Rattle.std.specs.Prelude.{nat_lt, Result, Ok, Err, codes}
use Rattle.std.proofs.lemmas.Bool.Decides.{nat_tests}
use Rattle.row_forms.specs.declared.field.Field.{Field}
use Rattle.row_forms.specs.declared.fault.RowFault.{RowFault}
use Rattle.row_forms.specs.declared.fault.ReadError as row_read
use Rattle.row_forms.specs.declared.fault.ReadError.TheVariants as row_errors
use Rattle.row_forms.specs.Rows.{with_front, row_said, are_fields, Gives}
use Rattle.row_forms.proofs.TextLemmas.{and_both}
use Rattle.table_texts.specs.declared.layout.Layout.{Layout}
use Rattle.table_texts.specs.Lines.{Numbered}
use Rattle.table_texts.specs.Endings.{behind_first}
use Rattle.table_forms.specs.declared.fault.TableFault.{TableFault}
use Rattle.table_forms.specs.declared.fault.TableFault.TheVariants as faults
use Rattle.table_forms.specs.declared.fault.ReadError.{ReadError}
use Rattle.table_forms.specs.declared.forms.TextForms.{TextForms}
use Rattle.table_forms.specs.Layouts.{is_open, shows_all}
use Rattle.table_forms.specs.Payloads.{begins, row_refused, row_error, head_then, entries_by, headed_said, GivesTable}

-- fields of which any bytes, so many, are a row
pub record IsOpen (fs : List Field) (size : ℕ) : Type 0 where
  pub short : length fs < 65536
  pub fields : are_fields fs ≡ true
  pub all : shows_all fs size ≡ true

pub open_is : (fs : List Field) (size : ℕ) → is_open fs size ≡ true → IsOpen fs size
unfolding is_open
open_is fs size e =
    let a = and_both _ (shows_all fs size) e in
    let b = and_both (nat_lt (length fs) 65536) (are_fields fs) a.0 in
    record { short = grind (arith, nat_tests, b); fields = b.1; all = a.1 }

pub headed_none : (f : TextForms) (l : Layout) (n : ℕ) (lines : List Numbered) → lines ≡ [] → headed_said f l n lines ≡ Err (faults.Head n)
unfolding headed_said
headed_none f l n lines e = rw e refl

pub headed_other : (f : TextForms) (l : Layout) (n m : ℕ) (ws : List (List ℕ)) (lines more : List Numbered) → lines ≡ record { number = m; words = ws } ∷ more → begins (codes "head") ws ≡ false → headed_said f l n lines ≡ Err (faults.Head m)
unfolding headed_said
headed_other f l n m ws lines more e other = rw e (rw other refl)

pub headed_row : (f : TextForms) (l : Layout) (n m : ℕ) (ws : List (List ℕ)) (lines more : List Numbered) → lines ≡ record { number = m; words = ws } ∷ more → begins (codes "head") ws ≡ true
    → headed_said f l n lines ≡ head_then m (row_said f.epoch 2 f.layouts.now.head.now (behind_first ws)) (entries_by f l (m + 1) more)
unfolding headed_said
headed_row f l n m ws lines more e here = rw e (rw here refl)

pub front_front : (a b : List ℕ) (r : Result (List ℕ) TableFault) → with_front a (with_front b r) ≡ with_front (a ++ b) r
front_front a b (Ok bytes) = ap Ok (sym (append_assoc a b bytes))
front_front a b (Err fault) = refl

ok_bytes : (a b : List ℕ) → ◌≡◌ {A = Result (List ℕ) RowFault} (Ok a) (Ok b) → a ≡ b
ok_bytes a b e = cc

head_front : (old mid : List ℕ) (row : Result (List ℕ) RowFault) (m : ℕ) (said : Result (List ℕ) TableFault) → with_front old row ≡ Ok mid → with_front old (head_then m row said) ≡ with_front mid said
head_front old mid (Ok head) m said e = front_front old head said ∙ ap (λ (xs : List ℕ). with_front xs said) (ok_bytes (old ++ head) mid e)
head_front old mid (Err fault) m said e = absurd (cc)

head_fault : (old : List ℕ) (row : Result (List ℕ) RowFault) (m : ℕ) (fault : RowFault) (said : Result (List ℕ) TableFault) → with_front old row ≡ Err fault → with_front old (head_then m row said) ≡ Err (row_refused m fault)
head_fault old (Ok head) m fault said e = absurd (cc)
head_fault old (Err f) m fault said e = let same : f ≡ fault = cc in ap (λ (x : RowFault). Err (row_refused m x)) same

-- a head, and the entries behind it
pub headed_gives : (f : TextForms) (l : Layout) (n m : ℕ) (ws behind : List (List ℕ)) (lines more : List Numbered) (old mid new : List ℕ) (r : Result (Unit {0}) ReadError) → lines ≡ record { number = m; words = ws } ∷ more → begins (codes "head") ws ≡ true → behind ≡ behind_first ws
    → with_front old (row_said f.epoch 2 f.layouts.now.head.now behind) ≡ Ok mid → GivesTable (with_front mid (entries_by f l (m + 1) more)) new r → GivesTable (with_front old (headed_said f l n lines)) new r
headed_gives f l n m ws behind lines more old mid new r e here same row given =
    let said : with_front old (row_said f.epoch 2 f.layouts.now.head.now (behind_first ws)) ≡ Ok mid = rw (← same) row in
    rw (ap (with_front old) (headed_row f l n m ws lines more e here) ∙ head_front old mid (row_said f.epoch 2 f.layouts.now.head.now (behind_first ws)) m (entries_by f l (m + 1) more) said) given

-- a row's fault
pub row_fault_is : (said : Result (List ℕ) RowFault) (new : List ℕ) (e : row_read.ReadError) (fault : RowFault) → e ≡ row_errors.Row fault → Gives said new (Err e) → said ≡ Err fault
row_fault_is said new e fault is given = rw is at given

-- a head that is no row
pub headed_refused : (f : TextForms) (l : Layout) (n m : ℕ) (ws behind : List (List ℕ)) (lines more : List Numbered) (old mid new : List ℕ) (bad : row_read.ReadError) (fault : RowFault) (e : ReadError) → lines ≡ record { number = m; words = ws } ∷ more → begins (codes "head") ws ≡ true → behind ≡ behind_first ws
    → bad ≡ row_errors.Row fault → Gives (with_front old (row_said f.epoch 2 f.layouts.now.head.now behind)) mid (Err bad) → e ≡ row_error m fault → GivesTable (with_front old (headed_said f l n lines)) new (Err e)
headed_refused f l n m ws behind lines more old mid new bad fault e is here same kind row error =
    let said : with_front old (row_said f.epoch 2 f.layouts.now.head.now (behind_first ws)) ≡ Err fault = rw (← same) (row_fault_is _ mid bad fault kind row) in
    rw error (ap (with_front old) (headed_row f l n m ws lines more is here) ∙ head_fault old (row_said f.epoch 2 f.layouts.now.head.now (behind_first ws)) m fault (entries_by f l (m + 1) more) said)
