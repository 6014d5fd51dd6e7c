-- Lemmas on the names of tables.
use Rattle.std.proofs.Common.{◌≡◌, ℕ, zero, suc, ◌+◌, ◌<◌, ◌≤◌, Bool, true, false, List, [], ◌∷◌, length, drop, map, get_or, Option, Some, None, refl, ap, sym, subst, cond, ◌∙◌, arith, add-one, ◌++◌, lit≤}
use Rattle.std.specs.Prelude.{if◌then◌else◌}
use Rattle.std.specs.Str.{bytes_eq}
use Rattle.std.specs.List.{range_with_len}
use Rattle.std.proofs.lemmas.Slice.Eq.{bytes_eq-Decides}
use Rattle.table_files.specs.declared.kinds.TableKind.{TableKind}
use Rattle.table_files.specs.declared.kinds.TableKind.TheVariants.{AppMon, EventMon, ExeCount, MsgActs, Ats, Rts, Dwell, Eeprom, Memory, Wdt, Adt}
use Rattle.table_files.specs.Kinds.{IsKnown}
use Rattle.table_forms.specs.declared.names.TableName.{TableName}
use Rattle.table_forms.specs.Names.{Called, called, called_by, kinds, name_of, kind_among, kind_said}

-- the kind of the first table of the code's list that has a name
abbrev pub kind_called : List TableName → List ℕ → Option TableKind
kind_called [] name = None
kind_called (table ∷ more) name = if bytes_eq table.name.now name then Some table.kind else kind_called more name

abbrev kind_in : List Called → List ℕ → Option TableKind
kind_in [] name = None
kind_in (table ∷ more) name = if bytes_eq table.name name then Some table.kind else kind_in more name

among_called : (ks : List TableKind) (name : List ℕ) → kind_among ks name ≡ kind_in (map called ks) name
unfolding kind_among
among_called [] name = refl
among_called (k ∷ ks) name = ap (λ (o : Option TableKind). if bytes_eq (name_of k) name then Some k else o) (among_called ks name)

in_called : (ts : List TableName) (name : List ℕ) → kind_in (map called_by ts) name ≡ kind_called ts name
in_called [] name = refl
in_called (t ∷ ts) name = ap (λ (o : Option TableKind). if bytes_eq t.name.now name then Some t.kind else o) (in_called ts name)

pub said_called : (ts : List TableName) (name : List ℕ) → map called_by ts ≡ map called kinds → kind_said name ≡ kind_called ts name
unfolding kind_said
said_called ts name is = among_called kinds name ∙ ap (λ (cs : List Called). kind_in cs name) (sym is) ∙ in_called ts name

called_next : (ts : List TableName) (i : ℕ) (d : TableName) (name : List ℕ) → i < length ts → kind_called (drop i ts) name ≡ (if bytes_eq (get_or ts i d).name.now name then Some (get_or ts i d).kind else kind_called (drop (suc i) ts) name)
called_next [] i d name h = absurd (omega (arith, h))
called_next (t ∷ ts) zero d name h = refl
called_next (t ∷ ts) (suc i) d name h = called_next ts i d name (omega (arith, h))

called_step : (ts : List TableName) (i : ℕ) (d : TableName) (name : List ℕ) → i < length ts → kind_called (drop i ts) name ≡ (if bytes_eq (get_or ts i d).name.now name then Some (get_or ts i d).kind else kind_called (drop (i + 1) ts) name)
called_step ts i d name h = rw add-one (called_next ts i d name h)

pub called_found : (ts : List TableName) (i : ℕ) (d : TableName) (bytes name : List ℕ) → i < length ts → bytes ≡ (get_or ts i d).name.now → true ≡ bytes_eq bytes name → kind_called (drop i ts) name ≡ Some (get_or ts i d).kind
called_found ts i d bytes name h e found =
    let t : bytes_eq (get_or ts i d).name.now name ≡ true = rw (← e) (sym found) in
    called_step ts i d name h ∙ rw t refl

pub called_passed : (ts : List TableName) (i : ℕ) (d : TableName) (bytes name : List ℕ) → i < length ts → bytes ≡ (get_or ts i d).name.now → false ≡ bytes_eq bytes name → kind_called (drop i ts) name ≡ kind_called (drop (i + 1) ts) name
called_passed ts i d bytes name h e found =
    let t : bytes_eq (get_or ts i d).name.now name ≡ false = rw (← e) (sym found) in
    called_step ts i d name h ∙ rw t refl

pub called_none : (ts : List TableName) (i : ℕ) (name : List ℕ) → length ts ≤ i → kind_called (drop i ts) name ≡ None
called_none [] zero name h = refl
called_none [] (suc i) name h = refl
called_none (t ∷ ts) zero name h = absurd (omega (arith, h))
called_none (t ∷ ts) (suc i) name h = called_none ts i name (omega (arith, h))

-- ---- which kinds there are

-- something holds of each of these kinds
abbrev Every : (TableKind → Type 0) → List TableKind → Type 0
Every P [] = Unit {0}
Every P (kind ∷ more) = P kind × Every P more

among_is : (P : TableKind → Type 0) (ks : List TableKind) (name : List ℕ) (kind : TableKind) → Every P ks → kind_among ks name ≡ Some kind → P kind × (name ≡ name_of kind)
unfolding kind_among
among_is P [] name kind every is = let wrong : ⊥ = cc in absurd wrong
among_is P (k ∷ ks) name kind every is = by_name (bytes_eq (name_of k) name) refl is (λ behind. among_is P ks name kind every.1 behind)
  where
    by_name : (b : Bool) → bytes_eq (name_of k) name ≡ b → cond b (Some k) (kind_among ks name) ≡ Some kind → (kind_among ks name ≡ Some kind → P kind × (name ≡ name_of kind)) → P kind × (name ≡ name_of kind)
    by_name true e here later = let same : k ≡ kind = cc in (subst P same every.0, sym ((bytes_eq-Decides (name_of k) name).0 e) ∙ ap name_of same)
    by_name false e behind later = later behind

relatives_known : (a n : ℕ) → 1 ≤ a → a + n ≤ 65 → Every IsKnown (map Rts (range_with_len a n))
relatives_known a zero least most = tt
relatives_known a (suc n) least most = ((least, omega arith), relatives_known (a + 1) n (omega arith) (omega arith))

every_joined : (P : TableKind → Type 0) (ks others : List TableKind) → Every P ks → Every P others → Every P (ks ++ others)
every_joined P [] others every also = also
every_joined P (k ∷ ks) others every also = (every.0, every_joined P ks others every.1 also)

-- a name in a text is that of a known kind
pub said_known : (name : List ℕ) (kind : TableKind) → kind_said name ≡ Some kind → IsKnown kind × (name ≡ name_of kind)
unfolding kind_said kinds
said_known name kind is =
    among_is IsKnown kinds name kind
    (every_joined IsKnown (AppMon ∷ EventMon ∷ ExeCount ∷ MsgActs ∷ Ats 1 ∷ Ats 2 ∷ Dwell 1 ∷ Dwell 2 ∷ Dwell 3 ∷ Dwell 4 ∷ Eeprom ∷ Memory ∷ Wdt ∷ Adt ∷ []) (map Rts (range_with_len 1 64))
    (tt, (tt, (tt, (tt, ((lit≤ tt, lit≤ tt), ((lit≤ tt, lit≤ tt), ((lit≤ tt, lit≤ tt), ((lit≤ tt, lit≤ tt), ((lit≤ tt, lit≤ tt), ((lit≤ tt, lit≤ tt), (tt, (tt, (tt, (tt, tt))))))))))))))
    (relatives_known 1 64 (lit≤ tt) (lit≤ tt)))
    is
