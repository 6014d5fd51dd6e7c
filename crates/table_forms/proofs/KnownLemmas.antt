-- Lemmas on the tables that are known by a name.
use Rattle.std.proofs.Common.{◌≡◌, ℕ, zero, suc, ◌+◌, ◌-◌, ◌<◌, ◌≤◌, Bool, true, false, cond, List, [], ◌∷◌, ◌++◌, length, take, drop, map, get_or, Some, refl, ap, sym, ◌∙◌, arith, replicate, length-drop}
use Rattle.std.specs.Prelude.{nat_lt, nat_eq, ◌==◌}
use Rattle.std.specs.List.{list_all, starts_with, range_with_len}
use Rattle.std.proofs.lemmas.List.{take-append-drop}
use Rattle.std.proofs.lemmas.List.FromFn.{get_or-map-range_with_len}
use Rattle.std.proofs.lemmas.Slice.Eq.{bytes_eq-Decides}
use Rattle.row_forms.proofs.TextLemmas.{and_both}
use Rattle.row_forms.proofs.BackLemmas.{zeros_are}
use Rattle.table_files.specs.declared.kinds.TableKind.{TableKind}
use Rattle.table_files.specs.declared.kinds.TableKind.TheVariants.{AppMon, EventMon, ExeCount, MsgActs, Ats, Rts, Dwell, Eeprom, Memory, Wdt, Adt}
use Rattle.table_files.specs.Kinds.{IsKnown, KnownTable, is_padded, kind_among, named_kind, named_tables, rts_table, rts_tables}
use Rattle.table_forms.specs.Names.{kinds, name_of, name_field, kind_said}
use Rattle.table_forms.specs.Names as names

-- what holds for each kind of the list holds for each known kind
for_relatives : {A : Type 0} (p q : TableKind → A) → map (λ (n : ℕ). p (Rts n)) (range_with_len 1 64) ≡ map (λ (n : ℕ). q (Rts n)) (range_with_len 1 64) → (n : ℕ) → 1 ≤ n → n ≤ 64 → p (Rts n) ≡ q (Rts n)
for_relatives p q e n least most =
    let below : n - 1 < 64 = omega arith in
    let same : 1 + (n - 1) ≡ n = omega arith in
    let d = p AppMon in
    sym (get_or-map-range_with_len (λ (n : ℕ). p (Rts n)) 1 64 (n - 1) n d below same)
    ∙ ap (λ xs. get_or xs (n - 1) d) e
    ∙ get_or-map-range_with_len (λ (n : ℕ). q (Rts n)) 1 64 (n - 1) n d below same

pub for_known : {A : Type 0} (p q : TableKind → A) → map p kinds ≡ map q kinds → (kind : TableKind) → IsKnown kind → p kind ≡ q kind
unfolding kinds
for_known p q e AppMon known = ap (λ xs. get_or xs 0 (p AppMon)) e
for_known p q e EventMon known = ap (λ xs. get_or xs 1 (p AppMon)) e
for_known p q e ExeCount known = ap (λ xs. get_or xs 2 (p AppMon)) e
for_known p q e MsgActs known = ap (λ xs. get_or xs 3 (p AppMon)) e
for_known p q e (Ats zero) known = absurd (omega arith)
for_known p q e (Ats (suc zero)) known = ap (λ xs. get_or xs 4 (p AppMon)) e
for_known p q e (Ats (suc (suc zero))) known = ap (λ xs. get_or xs 5 (p AppMon)) e
for_known p q e (Ats (suc (suc (suc n)))) known = absurd (omega arith)
for_known p q e (Dwell zero) known = absurd (omega arith)
for_known p q e (Dwell (suc zero)) known = ap (λ xs. get_or xs 6 (p AppMon)) e
for_known p q e (Dwell (suc (suc zero))) known = ap (λ xs. get_or xs 7 (p AppMon)) e
for_known p q e (Dwell (suc (suc (suc zero)))) known = ap (λ xs. get_or xs 8 (p AppMon)) e
for_known p q e (Dwell (suc (suc (suc (suc zero))))) known = ap (λ xs. get_or xs 9 (p AppMon)) e
for_known p q e (Dwell (suc (suc (suc (suc (suc n)))))) known = absurd (omega arith)
for_known p q e Eeprom known = ap (λ xs. get_or xs 10 (p AppMon)) e
for_known p q e Memory known = ap (λ xs. get_or xs 11 (p AppMon)) e
for_known p q e Wdt known = ap (λ xs. get_or xs 12 (p AppMon)) e
for_known p q e Adt known = ap (λ xs. get_or xs 13 (p AppMon)) e
for_known p q e (Rts n) known = for_relatives p q (ap (drop 14) e) n known.0 known.1

pub field_named : (kind : TableKind) → IsKnown kind → named_kind (name_field kind) ≡ Some kind
unfolding named_kind rts_tables is_padded name_of kinds
field_named kind known = for_known (λ k. named_kind (name_field k)) (λ k. Some k) refl kind known

pub name_said : (kind : TableKind) → IsKnown kind → kind_said (name_of kind) ≡ Some kind
unfolding kind_said names.kind_among name_of kinds
name_said kind known = for_known (λ k. kind_said (name_of k)) (λ k. Some k) refl kind known

pub name_marks : (kind : TableKind) → IsKnown kind → list_all (nat_lt 32) (name_of kind) ≡ true
unfolding name_of kinds
name_marks kind known = for_known (λ k. list_all (nat_lt 32) (name_of k)) (λ k. true) refl kind known

pub name_some : (kind : TableKind) → IsKnown kind → nat_lt 0 (length (name_of kind)) ≡ true
unfolding name_of kinds
name_some kind known = for_known (λ k. nat_lt 0 (length (name_of k))) (λ k. true) refl kind known

pub field_long : (kind : TableKind) → IsKnown kind → length (name_field kind) ≡ 40
unfolding name_of kinds
field_long kind known = for_known (λ k. length (name_field k)) (λ k. 40) refl kind known

-- ---- a name field is that of its kind

abbrev Named : List KnownTable → Type 0
Named [] = Unit {0}
Named (table ∷ rest) = (table.name ≡ name_of table.kind) × Named rest

padded_among : (tables : List KnownTable) (field : List ℕ) (kind : TableKind) → Named tables → kind_among tables field ≡ Some kind → is_padded (name_of kind) field ≡ true
padded_among [] field kind all is = let wrong : ⊥ = cc in absurd wrong
padded_among (table ∷ rest) field kind all is = by_name (is_padded table.name field) refl is (λ behind. padded_among rest field kind all.1 behind)
  where
    by_name : (b : Bool) → is_padded table.name field ≡ b → cond b (Some table.kind) (kind_among rest field) ≡ Some kind → (kind_among rest field ≡ Some kind → is_padded (name_of kind) field ≡ true) → is_padded (name_of kind) field ≡ true
    by_name true e here later = let same : table.kind ≡ kind = cc in ap (λ (k : TableKind). is_padded (name_of k) field) (sym same) ∙ ap (λ (name : List ℕ). is_padded name field) (sym all.0) ∙ e
    by_name false e behind later = later behind

named_joined : (tables others : List KnownTable) → Named tables → Named others → Named (tables ++ others)
named_joined [] others all also = also
named_joined (t ∷ ts) others all also = (all.0, named_joined ts others all.1 also)

relatives_named : (a n : ℕ) → Named (map rts_table (range_with_len a n))
unfolding name_of
relatives_named a zero = tt
relatives_named a (suc n) = (refl, relatives_named (a + 1) n)

all_named : Named (named_tables ++ rts_tables)
unfolding rts_tables name_of
all_named = named_joined named_tables rts_tables (refl, (refl, (refl, (refl, (refl, (refl, (refl, (refl, (refl, (refl, (refl, (refl, (refl, (refl, tt)))))))))))))) (relatives_named 1 64)

padded_is : (name field : List ℕ) → length field ≡ 40 → is_padded name field ≡ true → field ≡ name ++ replicate (40 - length name) 0
unfolding is_padded
padded_is name field long e =
    let both = and_both (starts_with nat_eq field name) (list_all (λ b. b == 0) (drop (length name) field)) e in
    let front : take (length name) field ≡ name = sym ((bytes_eq-Decides name (take (length name) field)).0 both.0) in
    let left : length (drop (length name) field) ≡ 40 - length name = length-drop (length name) field ∙ ap (λ (n : ℕ). n - length name) long in
    sym (take-append-drop (length name) field)
    ∙ ap (λ (xs : List ℕ). xs ++ drop (length name) field) front
    ∙ ap (λ (xs : List ℕ). name ++ xs) (zeros_are (drop (length name) field) both.1 ∙ ap (λ (n : ℕ). replicate n 0) left)

pub field_is : (field : List ℕ) (kind : TableKind) → length field ≡ 40 → named_kind field ≡ Some kind → field ≡ name_field kind
unfolding named_kind
field_is field kind long named = padded_is (name_of kind) field long (padded_among (named_tables ++ rts_tables) field kind all_named named)
