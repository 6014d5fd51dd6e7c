-- Lemmas on the lines of sequences.
use Rattle.std.proofs.Common.{◌≡◌, ℕ, ◌+◌, ◌<◌, ◌≤◌, true, false, List, [], ◌∷◌, ◌++◌, length, take, drop, refl, ap, sym, subst, ◌∙◌, arith, Some, None, Option, append_assoc, append-nil, Bor}
use Rattle.std.specs.Prelude.{◌==◌, nat_lt, nat_le, Result, Ok, Err, codes}
use Rattle.std.specs.List.{list_all}
use Rattle.std.specs.Str.{bytes_eq}
use Rattle.std.proofs.lemmas.Bool.Decides.{nat_tests}
use Rattle.row_forms.specs.declared.field.Field.{Field}
use Rattle.row_forms.specs.declared.fault.Reason.TheVariants as reasons
use Rattle.row_forms.specs.declared.fault.RowFault.{RowFault}
use Rattle.row_forms.specs.declared.fault.ReadError.{ReadError}
use Rattle.row_forms.specs.declared.fault.ReadError.TheVariants as row_errors
use Rattle.row_forms.specs.Rows.{with_front, fault_at, row_said, row_size, are_fields, Gives}
use Rattle.row_forms.proofs.TextLemmas.{and_both}
use Rattle.telecommands.specs.declared.command.Command.{Command}
use Rattle.table_texts.specs.declared.fault.LineFault.{LineFault}
use Rattle.table_texts.specs.declared.fault.LineFault.TheVariants as faults
use Rattle.table_texts.specs.declared.fault.LineError.{LineError}
use Rattle.table_texts.specs.declared.fault.LineError.TheVariants as line_errors
use Rattle.table_texts.specs.declared.fault.TextFault.{TextFault}
use Rattle.table_texts.specs.declared.fault.TextError.{TextError}
use Rattle.table_texts.specs.declared.fault.TextError.TheVariants as errors
use Rattle.table_texts.specs.Lines.{Numbered}
use Rattle.table_texts.specs.Endings.{is_end, behind_first, ended, fault_on, error_on, GivesText}
use Rattle.table_texts.specs.Fronts.{has_size, is_value, is_front, Front, then_front, front_said, front_behind, behind_front, GivesFront, GivesItem}
use Rattle.table_texts.specs.Sequences.{bytes_said, item_said, then_item, sequence_said}

-- ---- fields in front

pub record IsFront (fs : List Field) (bytes : ℕ) : Type 0 where
  pub few : length fs ≤ 16
  pub small : bytes < 65536
  pub fields : are_fields fs ≡ true
  pub values : list_all is_value fs ≡ true
  pub sized : row_size fs ≡ Some bytes

pub size_is : (o : Option ℕ) (n : ℕ) → has_size o n ≡ true → o ≡ Some n
size_is None n e = absurd (cc)
size_is (Some m) n e = let h : m ≡ n = grind (arith, nat_tests) in rw h refl

pub front_is : (fs : List Field) (size : ℕ) → is_front fs size ≡ true → IsFront fs size
unfolding is_front
front_is fs size e =
    let a = and_both _ (has_size (row_size fs) size) e in
    let b = and_both _ (list_all is_value fs) a.0 in
    let c = and_both _ (are_fields fs) b.0 in
    let d = and_both (nat_le (length fs) 16) (nat_lt size 65536) c.0 in
    record {
      few = grind (arith, nat_tests, d);
      small = grind (arith, nat_tests, d);
      fields = c.1;
      values = b.1;
      sized = size_is (row_size fs) size a.1;
    }

no_fields : (fs : List Field) → (length fs == 0) ≡ true → fs ≡ []
no_fields [] e = refl
no_fields (f ∷ fs) e = let h : length (f ∷ fs) ≡ 0 = grind (arith, nat_tests) in absurd (omega (arith, h))

pub said_nil : (epoch : Option ℕ) (n : ℕ) (ws : List (List ℕ)) → front_said epoch n [] ws ≡ Ok (record { bytes = []; rest = ws })
unfolding front_said
said_nil epoch n ws = refl

said_missing : (epoch : Option ℕ) (n : ℕ) (f : Field) (fs : List Field) → front_said epoch n (f ∷ fs) [] ≡ Err (fault_at n reasons.Missing)
unfolding front_said
said_missing epoch n f fs = refl

pub said_cons : (epoch : Option ℕ) (n : ℕ) (f : Field) (fs : List Field) (w : List ℕ) (ws : List (List ℕ)) → front_said epoch n (f ∷ fs) (w ∷ ws) ≡ then_front (row_said epoch n (f ∷ []) (w ∷ [])) (front_said epoch (n + 1) fs ws)
unfolding front_said
said_cons epoch n f fs w ws = refl

pub front_ends : (epoch : Option ℕ) (n : ℕ) (fs : List Field) (ws : List (List ℕ)) (old : List ℕ) → (length fs == 0) ≡ true → front_behind old (front_said epoch n fs ws) ≡ Ok (record { bytes = old; rest = ws })
front_ends epoch n fs ws old e =
    ap (λ (xs : List Field). front_behind old (front_said epoch n xs ws)) (no_fields fs e)
    ∙ ap (front_behind old) (said_nil epoch n ws)
    ∙ ap (as_front ws) (append-nil old) where
      as_front : List (List ℕ) → List ℕ → Result Front RowFault
      as_front ws xs = Ok (record { bytes = xs; rest = ws })

front_missing : (epoch : Option ℕ) (n : ℕ) (fs : List Field) (old new : List ℕ) (e : ReadError) → (length fs == 0) ≡ false → e ≡ row_errors.Row (fault_at n reasons.Missing) → GivesFront (front_behind old (front_said epoch n fs [])) new (Err e)
front_missing epoch n [] old new e some is = absurd (cc)
front_missing epoch n (f ∷ fs) old new e some is = rw is (ap (front_behind old) (said_missing epoch n f fs))

-- a word is wanted, and there is none
pub missing_gives : (epoch : Option ℕ) (n : ℕ) (fs : List Field) (ws : List (List ℕ)) (old new : List ℕ) (e : ReadError) → (length fs == 0) ≡ false → ws ≡ [] → e ≡ row_errors.Row (fault_at n reasons.Missing) → GivesFront (front_behind old (front_said epoch n fs ws)) new (Err e)
missing_gives epoch n fs ws old new e some none is =
    let P : List (List ℕ) → Type 0 = λ xs. GivesFront (front_behind old (front_said epoch n fs xs)) new (Err e) in
    subst P (sym none) (front_missing epoch n fs old new e some is)

front_more : (old mid : List ℕ) (r : Result (List ℕ) RowFault) (more : Result Front RowFault) → with_front old r ≡ Ok mid → front_behind old (then_front r more) ≡ front_behind mid more
front_more old mid (Ok bytes) (Ok front) e = ap (λ (xs : List ℕ). Ok (record { bytes = xs; rest = front.rest })) (sym (append_assoc old bytes front.bytes) ∙ ap (λ (xs : List ℕ). xs ++ front.bytes) (same (old ++ bytes) mid e)) where
  same : (a b : List ℕ) → ◌≡◌ {A = Result (List ℕ) RowFault} (Ok a) (Ok b) → a ≡ b
  same a b f = cc
front_more old mid (Ok bytes) (Err fault) e = refl
front_more old mid (Err fault) more e = absurd (cc)

front_then : (epoch : Option ℕ) (n : ℕ) (fs : List Field) (w : List ℕ) (ws : List (List ℕ)) (old mid new : List ℕ) (r : Result (Bor (List ℕ)) ReadError) → (length fs == 0) ≡ false → with_front old (row_said epoch n (take 1 fs) (w ∷ [])) ≡ Ok mid → GivesFront (front_behind mid (front_said epoch (n + 1) (drop 1 fs) ws)) new r → GivesFront (front_behind old (front_said epoch n fs (w ∷ ws))) new r
front_then epoch n [] w ws old mid new r some first more = absurd (cc)
front_then epoch n (f ∷ fs) w ws old mid new r some first more =
    rw (ap (front_behind old) (said_cons epoch n f fs w ws) ∙ front_more old mid (row_said epoch n (f ∷ []) (w ∷ [])) (front_said epoch (n + 1) fs ws) first) more

-- a field, and those behind it
pub then_gives : (epoch : Option ℕ) (n : ℕ) (fs field more : List Field) (w : List ℕ) (us ws rest : List (List ℕ)) (old mid new : List ℕ) (r : Result (Bor (List ℕ)) ReadError) → (length fs == 0) ≡ false → field ≡ take 1 fs → more ≡ drop 1 fs → ws ≡ w ∷ rest → us ≡ w ∷ [] → with_front old (row_said epoch n field us) ≡ Ok mid → GivesFront (front_behind mid (front_said epoch (n + 1) more rest)) new r → GivesFront (front_behind old (front_said epoch n fs ws)) new r
then_gives epoch n fs field more w us ws rest old mid new r some a b c d first behind =
    let row = rw (a, d) at first in
    let others = rw b at behind in
    rw c (front_then epoch n fs w rest old mid new r some row others)

front_fault : (epoch : Option ℕ) (n : ℕ) (fs : List Field) (w : List ℕ) (ws : List (List ℕ)) (old : List ℕ) (fault : RowFault) → (length fs == 0) ≡ false → with_front old (row_said epoch n (take 1 fs) (w ∷ [])) ≡ Err fault → front_behind old (front_said epoch n fs (w ∷ ws)) ≡ Err fault
front_fault epoch n [] w ws old fault some first = absurd (cc)
front_fault epoch n (f ∷ fs) w ws old fault some first = ap (front_behind old) (said_cons epoch n f fs w ws) ∙ by (row_said epoch n (f ∷ []) (w ∷ [])) (front_said epoch (n + 1) fs ws) old fault first where
  by : (r : Result (List ℕ) RowFault) (more : Result Front RowFault) (old : List ℕ) (fault : RowFault) → with_front old r ≡ Err fault → front_behind old (then_front r more) ≡ Err fault
  by (Ok bytes) more old fault e = absurd (cc)
  by (Err f) more old fault e = let same : f ≡ fault = cc in ap Err same

-- a word that isn't its field's
pub refused_gives : (epoch : Option ℕ) (n : ℕ) (fs field : List Field) (w : List ℕ) (us ws rest : List (List ℕ)) (old new : List ℕ) (e : ReadError) → (length fs == 0) ≡ false → field ≡ take 1 fs → ws ≡ w ∷ rest → us ≡ w ∷ [] → Gives (with_front old (row_said epoch n field us)) new (Err e) → GivesFront (front_behind old (front_said epoch n fs ws)) new (Err e)
refused_gives epoch n fs field w us ws rest old new (row_errors.Memory e) some a c d first = tt
refused_gives epoch n fs field w us ws rest old new (row_errors.Row fault) some a c d first =
    let row = rw (a, d) at first in
    rw c (front_fault epoch n fs w rest old fault some row)

-- ---- a line

pub item_none : (epoch : Option ℕ) (cs : List Command) (fs : List Field) (ws : List (List ℕ)) → ws ≡ [] → item_said epoch cs fs ws ≡ Err faults.Word
unfolding item_said
item_none epoch cs fs ws e = rw e refl

pub item_command : (epoch : Option ℕ) (cs : List Command) (fs : List Field) (ws : List (List ℕ)) (w : List ℕ) (more : List (List ℕ)) → ws ≡ w ∷ more → bytes_eq w (codes "command") ≡ true → item_said epoch cs fs ws ≡ behind_front epoch cs (length fs + 2) (front_said epoch 2 fs more)
unfolding item_said
item_command epoch cs fs ws w more e is = rw e (rw is refl)

pub item_raw : (epoch : Option ℕ) (cs : List Command) (fs : List Field) (ws : List (List ℕ)) (w : List ℕ) (more : List (List ℕ)) → ws ≡ w ∷ more → bytes_eq w (codes "command") ≡ false → bytes_eq w (codes "raw") ≡ true → item_said epoch cs fs ws ≡ bytes_said more
unfolding item_said
item_raw epoch cs fs ws w more e first is = rw e (rw (first, is) refl)

pub item_other : (epoch : Option ℕ) (cs : List Command) (fs : List Field) (ws : List (List ℕ)) (w : List ℕ) (more : List (List ℕ)) → ws ≡ w ∷ more → bytes_eq w (codes "command") ≡ false → bytes_eq w (codes "raw") ≡ false → item_said epoch cs fs ws ≡ Err faults.Word
unfolding item_said
item_other epoch cs fs ws w more e first other = rw e (rw (first, other) refl)

-- ---- all lines

sequence_nil : (epoch : Option ℕ) (cs : List Command) (fs : List Field) (n : ℕ) (lines : List Numbered) → lines ≡ [] → sequence_said epoch cs fs n lines ≡ Err (fault_on n faults.End)
unfolding sequence_said
sequence_nil epoch cs fs n lines e = rw e refl

pub sequence_end : (epoch : Option ℕ) (cs : List Command) (fs : List Field) (n m : ℕ) (ws : List (List ℕ)) (lines more : List Numbered) → lines ≡ record { number = m; words = ws } ∷ more → is_end ws ≡ true → sequence_said epoch cs fs n lines ≡ ended [] m (behind_first ws) more
unfolding sequence_said
sequence_end epoch cs fs n m ws lines more e end = rw e (rw end refl)

pub sequence_line : (epoch : Option ℕ) (cs : List Command) (fs : List Field) (n m : ℕ) (ws : List (List ℕ)) (lines more : List Numbered) → lines ≡ record { number = m; words = ws } ∷ more → is_end ws ≡ false → sequence_said epoch cs fs n lines ≡ then_item m (item_said epoch cs fs ws) (sequence_said epoch cs fs (m + 1) more)
unfolding sequence_said
sequence_line epoch cs fs n m ws lines more e end = rw e (rw end refl)

front_front : (a b : List ℕ) (r : Result (List ℕ) TextFault) → with_front a (with_front b r) ≡ with_front (a ++ b) r
front_front a b (Ok bytes) = ap Ok (sym (append_assoc a b bytes))
front_front a b (Err fault) = refl

item_then : (old mid : List ℕ) (said : Result (List ℕ) LineFault) (m : ℕ) (next : Result (List ℕ) TextFault) → with_front old said ≡ Ok mid → with_front old (then_item m said next) ≡ with_front mid next
item_then old mid (Ok bytes) m next e = front_front old bytes next ∙ ap (λ (xs : List ℕ). with_front xs next) (same (old ++ bytes) mid e) where
  same : (a b : List ℕ) → ◌≡◌ {A = Result (List ℕ) LineFault} (Ok a) (Ok b) → a ≡ b
  same a b f = cc
item_then old mid (Err fault) m next e = absurd (cc)

-- one line more was read
pub line_read : (epoch : Option ℕ) (cs : List Command) (fs : List Field) (n m : ℕ) (ws : List (List ℕ)) (lines more : List Numbered) (old mid : List ℕ) → lines ≡ record { number = m; words = ws } ∷ more → is_end ws ≡ false → with_front old (item_said epoch cs fs ws) ≡ Ok mid → with_front old (sequence_said epoch cs fs n lines) ≡ with_front mid (sequence_said epoch cs fs (m + 1) more)
line_read epoch cs fs n m ws lines more old mid e end said =
    ap (with_front old) (sequence_line epoch cs fs n m ws lines more e end) ∙ item_then old mid (item_said epoch cs fs ws) m (sequence_said epoch cs fs (m + 1) more) said

pub end_gives : (epoch : Option ℕ) (cs : List Command) (fs : List Field) (n m : ℕ) (ws behind : List (List ℕ)) (lines more : List Numbered) (old : List ℕ) (whole : Result (List ℕ) TextFault) (r : Result (Unit {0}) TextError) → whole ≡ with_front old (sequence_said epoch cs fs n lines) → lines ≡ record { number = m; words = ws } ∷ more → is_end ws ≡ true → behind ≡ behind_first ws → GivesText (with_front old (ended [] m behind more)) old r → GivesText whole old r
end_gives epoch cs fs n m ws behind lines more old whole r w e end same given = rw (w, sequence_end epoch cs fs n m ws lines more e end, ← same) given

item_fault : (old : List ℕ) (said : Result (List ℕ) LineFault) (m : ℕ) (fault : LineFault) (next : Result (List ℕ) TextFault) → with_front old said ≡ Err fault → with_front old (then_item m said next) ≡ Err (fault_on m fault)
item_fault old (Ok bytes) m fault next e = absurd (cc)
item_fault old (Err f) m fault next e = let same : f ≡ fault = cc in ap (λ (x : LineFault). Err (fault_on m x)) same

pub error_gives : (epoch : Option ℕ) (cs : List Command) (fs : List Field) (n m : ℕ) (ws : List (List ℕ)) (lines more : List Numbered) (old new : List ℕ) (whole : Result (List ℕ) TextFault) (e : LineError) → whole ≡ with_front old (sequence_said epoch cs fs n lines) → lines ≡ record { number = m; words = ws } ∷ more → is_end ws ≡ false → GivesItem (with_front old (item_said epoch cs fs ws)) new (Err e) → GivesText whole new (Err (error_on m e))
error_gives epoch cs fs n m ws lines more old new whole (line_errors.Memory e) w here end given = tt
error_gives epoch cs fs n m ws lines more old new whole (line_errors.Fault fault) w here end said =
    w ∙ ap (with_front old) (sequence_line epoch cs fs n m ws lines more here end) ∙ item_fault old (item_said epoch cs fs ws) m fault (sequence_said epoch cs fs (m + 1) more) said

pub none_gives : (epoch : Option ℕ) (cs : List Command) (fs : List Field) (n : ℕ) (lines : List Numbered) (old new : List ℕ) (whole : Result (List ℕ) TextFault) (e : TextError) → whole ≡ with_front old (sequence_said epoch cs fs n lines) → lines ≡ [] → e ≡ errors.Text (fault_on n faults.End) → GivesText whole new (Err e)
none_gives epoch cs fs n lines old new whole e w none is = rw is (w ∙ ap (with_front old) (sequence_nil epoch cs fs n lines none))
