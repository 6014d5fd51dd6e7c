-- What follows for a file from its having no fault.
use Rattle.std.proofs.Common.{◌↔◌, ◌⊎◌, inl, inr, IsTrue, ◌≡◌, ℕ, zero, suc, ◌+◌, ◌<◌, ◌≤◌, ◌-◌, Bool, true, false, List, [], ◌∷◌, ◌++◌, length, replicate, codes, drop, map, get_or, refl, sym, ap, ◌∙◌, arith, cond, subst, lit≤, Option, Some, None, length-drop}
use Rattle.std.specs.Prelude.{◌&&◌, ◌==◌, not, is_none, nat_lt, if◌then◌else◌}
use Rattle.std.proofs.lemmas.Grind.{common_steps}
use Rattle.std.proofs.lemmas.Bool.Decides.{nat_tests}
use Rattle.std.specs.List.{range_with_len}
use Rattle.std.proofs.lemmas.List.FromFn.{get_or-map-range_with_len}
use Rattle.packet_forms.specs.Crc.{crc_of}
use Rattle.table_files.specs.declared.fault.FileFault.{FileFault}
use Rattle.table_files.specs.declared.fault.FileFault.TheVariants.{Short, ContentType, Subtype}
use Rattle.table_files.specs.declared.kinds.TableKind.{TableKind}
use Rattle.table_files.specs.declared.kinds.TableKind.TheVariants.{AppMon, EventMon, ExeCount, MsgActs, Ats, Rts, Dwell, Eeprom, Memory, Wdt, Adt}
use Rattle.table_files.specs.Kinds.{IsTable, IsKnown, fits_kind, is_padded, named_kind, kind_among, named_tables, rts_name, rts_table, rts_tables, KnownTable}
use Rattle.table_files.specs.Headers.{content_type, subtype, table_offset, table_name, table_size, table_fault, load_size, load_crc, load_fault, fault_of_table, fault_of_load, file_fault_of, IsFile, is_load, kind_of_file, payload_of_file, address_of_file, IsTableFile, IsLoadFile, IsTableOf, IsLoadOf}

-- the tests of the first header, and what they say where no fault was found
headed : (short typed table load : Bool) (of_table of_load : Option FileFault)
    → (if short then Some Short else if not typed then Some ContentType else if table then of_table else if load then of_load else Some Subtype) ≡ None
    → (short ≡ false) × (typed ≡ true) × (((table ≡ true) × (of_table ≡ None)) ⊎ ((table ≡ false) × (load ≡ true) × (of_load ≡ None)))
headed true typed table load of_table of_load ok = absurd (cc)
headed false false table load of_table of_load ok = absurd (cc)
headed false true true load of_table of_load ok = (refl, refl, inl (refl, ok))
headed false true false true of_table of_load ok = (refl, refl, inr (refl, refl, ok))
headed false true false false of_table of_load ok = absurd (cc)

-- it is a table without a fault, or it is to be loaded and has none
sorted : (file : List ℕ) → file_fault_of file ≡ None
    → (nat_lt (length file) 64 ≡ false) × ((content_type file == 0x63464531) ≡ true) × ((((subtype file == 8) ≡ true) × (fault_of_table file ≡ None)) ⊎ (((subtype file == 8) ≡ false) × ((subtype file == 100) ≡ true) × (fault_of_load file ≡ None)))
unfolding file_fault_of
sorted file ok = headed (nat_lt (length file) 64) (content_type file == 0x63464531) (subtype file == 8) (subtype file == 100) (fault_of_table file) (fault_of_load file) ok

-- both headers of a table, an offset of 0, and a table without a fault
table_sorts : (file : List ℕ) → fault_of_table file ≡ None → (116 ≤ length file) × (table_offset file ≡ 0) × (table_fault (named_kind (table_name file)) (table_size file) (length file - 116) ≡ None)
unfolding fault_of_table
table_sorts file ok = (grind (arith, common_steps), grind (arith, common_steps), grind (arith, common_steps))

-- both headers of bytes to be loaded, which have no fault
load_sorts : (file : List ℕ) → fault_of_load file ≡ None → (80 ≤ length file) × (load_fault (drop 80 file) (load_size file) (load_crc file) ≡ None)
unfolding fault_of_load
load_sorts file ok = (grind (arith, common_steps), grind (arith, common_steps))

load_well : (bytes : List ℕ) (said check : ℕ) → load_fault bytes said check ≡ None → (said ≡ length bytes) × (0 < length bytes) × (length bytes ≤ 65536) × (check ≡ crc_of 0 bytes)
load_well bytes said check ok = (grind (arith, common_steps), grind (arith, common_steps), grind (arith, common_steps), grind (arith, common_steps))

-- a subtype that is one isn't the other
other_test : (n : ℕ) → (n == 8) ≡ true → (n == 100) ≡ false
other_test n is = grind (arith, nat_tests)

-- which of the two it is, by its subtype
by_sort : {P : Type 0} (file : List ℕ) → file_fault_of file ≡ None → (fault_of_table file ≡ None → is_load file ≡ false → P) → (fault_of_load file ≡ None → is_load file ≡ true → P) → P
unfolding is_load
by_sort file ok table load = elim (sorted file ok).2 [
  | inl is ↦ table is.1 (other_test (subtype file) is.0)
  | inr is ↦ load is.2 is.1
]

wrong_sort : {P : Type 0} (b : Bool) → b ≡ true → b ≡ false → P
wrong_sort b yes_it not_it = let wrong : true ≡ false = sym yes_it ∙ not_it in absurd (cc)

-- a table, where it isn't to be loaded
as_table : (file : List ℕ) → file_fault_of file ≡ None → is_load file ≡ false → fault_of_table file ≡ None
as_table file ok unloaded = by_sort file ok (λ is other. is) (λ is load. wrong_sort (is_load file) load unloaded)

-- bytes to be loaded, where it is
as_load : (file : List ℕ) → file_fault_of file ≡ None → is_load file ≡ true → fault_of_load file ≡ None
as_load file ok load = by_sort file ok (λ is other. wrong_sort (is_load file) load other) (λ is same. is)

-- it has both headers of bytes to be loaded, or more
pub long : (file : List ℕ) → file_fault_of file ≡ None → 80 ≤ length file
long file ok = by_sort file ok (λ is unloaded. let headers = (table_sorts file is).0 in omega (arith, headers)) (λ is load. (load_sorts file is).0)

-- a table has both headers of a table
pub table_long : (file : List ℕ) → file_fault_of file ≡ None → is_load file ≡ false → 116 ≤ length file
table_long file ok unloaded = (table_sorts file (as_table file ok unloaded)).0

-- its table has no fault
table_accepted : (file : List ℕ) → file_fault_of file ≡ None → is_load file ≡ false → table_fault (named_kind (table_name file)) (table_size file) (length file - 116) ≡ None
table_accepted file ok unloaded = (table_sorts file (as_table file ok unloaded)).2

unnamed : (k : Option TableKind) (said size : ℕ) → table_fault k said size ≡ None → k ≡ None → ⊥
unnamed None said size ok none = let wrong : ⊥ = cc in wrong
unnamed (Some kind) said size ok none = let wrong : ⊥ = cc in wrong

sized : (kind : TableKind) (said size : ℕ) → table_fault (Some kind) said size ≡ None → fits_kind kind size ≡ true
sized kind said size ok = grind (arith, common_steps)

said_size : (kind : TableKind) (said size : ℕ) → table_fault (Some kind) said size ≡ None → said ≡ size
said_size kind said size ok = grind (arith, common_steps)

none_of_size : (kind : TableKind) (said size : ℕ) → said ≡ size → IsTrue (fits_kind kind size) → table_fault (Some kind) said size ≡ None
none_of_size kind said size is fits = grind (arith, common_steps)

-- its name is known
pub named : (file : List ℕ) → file_fault_of file ≡ None → is_load file ≡ false → named_kind (table_name file) ≡ None → ⊥
named file ok unloaded none = unnamed (named_kind (table_name file)) (table_size file) (length file - 116) (table_accepted file ok unloaded) none

-- its kind is what its name says, where it isn't to be loaded
pub kind_named : (file : List ℕ) → file_fault_of file ≡ None → is_load file ≡ false → kind_of_file file ≡ named_kind (table_name file)
unfolding kind_of_file
kind_named file ok unloaded = rw (ok, unloaded) refl

-- it is to be loaded where it has no kind, and else it is a table
pub loaded_where : (file : List ℕ) → file_fault_of file ≡ None → kind_of_file file ≡ None → is_load file ≡ true
loaded_where file ok none = by_load (is_load file) refl
  where
    by_load : (b : Bool) → is_load file ≡ b → is_load file ≡ true
    by_load true load = load
    by_load false unloaded = absurd (named file ok unloaded (sym (kind_named file ok unloaded) ∙ none))

pub tabled_where : (file : List ℕ) (kind : TableKind) → kind_of_file file ≡ Some kind → is_load file ≡ false
unfolding kind_of_file
tabled_where file kind is = by_tests (is_none (file_fault_of file)) (is_load file) is
  where
    by_tests : (well load : Bool) → (if well && not load then named_kind (table_name file) else None) ≡ Some kind → load ≡ false
    by_tests true true wrong = cc
    by_tests false true wrong = cc
    by_tests well false right = refl

-- something holds of the kind of each of these tables
abbrev Every : (TableKind → Type 0) → List KnownTable → Type 0
Every P [] = Unit {0}
Every P (table ∷ rest) = P table.kind × Every P rest

among : (P : TableKind → Type 0) (tables : List KnownTable) (field : List ℕ) (kind : TableKind) → Every P tables → kind_among tables field ≡ Some kind → P kind
among P [] field kind every is = let wrong : ⊥ = cc in absurd wrong
among P (table ∷ rest) field kind every is = by_name (is_padded table.name field) is (λ behind. among P rest field kind every.1 behind)
  where
    by_name : (b : Bool) → cond b (Some table.kind) (kind_among rest field) ≡ Some kind → (kind_among rest field ≡ Some kind → P kind) → P kind
    by_name true here later = let same : table.kind ≡ kind = cc in subst P same every.0
    by_name false behind later = later behind

every_joined : (P : TableKind → Type 0) (tables others : List KnownTable) → Every P tables → Every P others → Every P (tables ++ others)
every_joined P [] others every also = also
every_joined P (table ∷ tables) others every also = (every.0, every_joined P tables others every.1 also)

-- relative sequences are known
rts_known : (a n : ℕ) → 1 ≤ a → a + n ≤ 65 → Every IsKnown (map rts_table (range_with_len a n))
rts_known a zero least most = tt
rts_known a (suc n) least most = ((least, omega arith), rts_known (a + 1) n (omega arith) (omega arith))

-- a kind that a name says is known
pub named_known : (field : List ℕ) (kind : TableKind) → named_kind field ≡ Some kind → IsKnown kind
unfolding named_kind rts_tables
named_known field kind named =
    among IsKnown (named_tables ++ rts_tables) field kind
    (every_joined IsKnown named_tables rts_tables
    (tt, (tt, (tt, (tt, ((lit≤ tt, lit≤ tt), ((lit≤ tt, lit≤ tt), ((lit≤ tt, lit≤ tt), ((lit≤ tt, lit≤ tt), ((lit≤ tt, lit≤ tt), ((lit≤ tt, lit≤ tt), (tt, (tt, (tt, (tt, tt))))))))))))))
    (rts_known 1 64 (lit≤ tt) (lit≤ tt)))
    named

-- the name field of a dwell table
abbrev dwell_field : ℕ → List ℕ
dwell_field n = codes "MD.DWELL_TABLE" ++ (48 + n) ∷ replicate 25 0

-- the name field of a relative sequence, and which it names
abbrev rts_field : ℕ → List ℕ
rts_field n = rts_name n ++ replicate 27 0

rts_fields : map (λ (n : ℕ). named_kind (rts_field n)) (range_with_len 1 64) ≡ map (λ (n : ℕ). Some (Rts n)) (range_with_len 1 64)
unfolding named_kind rts_tables is_padded
rts_fields = refl

rts_named : (n : ℕ) → 1 ≤ n → n ≤ 64 → named_kind (rts_field n) ≡ Some (Rts n)
rts_named n least most =
    let below : n - 1 < 64 = omega arith in
    let same : 1 + (n - 1) ≡ n = omega arith in
    sym (get_or-map-range_with_len (λ (n : ℕ). named_kind (rts_field n)) 1 64 (n - 1) n None below same)
    ∙ ap (λ (kinds : List (Option TableKind)). get_or kinds (n - 1) None) rts_fields
    ∙ get_or-map-range_with_len (λ (n : ℕ). Some (Rts n)) 1 64 (n - 1) n None below same

-- a known kind is said by a name
known_named : (kind : TableKind) → IsKnown kind → (field : List ℕ) × (named_kind field ≡ Some kind)
unfolding named_kind rts_tables is_padded
known_named (Dwell zero) known = absurd (omega arith)
known_named (Dwell (suc zero)) known = (dwell_field 1, refl)
known_named (Dwell (suc (suc zero))) known = (dwell_field 2, refl)
known_named (Dwell (suc (suc (suc zero)))) known = (dwell_field 3, refl)
known_named (Dwell (suc (suc (suc (suc zero))))) known = (dwell_field 4, refl)
known_named (Dwell (suc (suc (suc (suc (suc n)))))) known = absurd (omega arith)
known_named Eeprom known = (codes "CS.DefEepromTbl" ++ replicate 25 0, refl)
known_named Memory known = (codes "CS.DefMemoryTbl" ++ replicate 25 0, refl)
known_named Wdt known = (codes "LC.WDT_Tbl" ++ replicate 30 0, refl)
known_named Adt known = (codes "LC.ADT_Tbl" ++ replicate 30 0, refl)
known_named AppMon known = (codes "HS.AppMon_Tbl" ++ replicate 27 0, refl)
known_named EventMon known = (codes "HS.EventMon_Tbl" ++ replicate 25 0, refl)
known_named ExeCount known = (codes "HS.ExeCount_Tbl" ++ replicate 25 0, refl)
known_named MsgActs known = (codes "HS.MsgActs_Tbl" ++ replicate 26 0, refl)
known_named (Ats zero) known = absurd (omega arith)
known_named (Ats (suc zero)) known = (codes "SC.ATS_TBL1" ++ replicate 29 0, refl)
known_named (Ats (suc (suc zero))) known = (codes "SC.ATS_TBL2" ++ replicate 29 0, refl)
known_named (Ats (suc (suc (suc n)))) known = absurd (omega arith)
known_named (Rts n) known = (rts_field n, rts_named n known.0 known.1)

pub known_is_named : (kind : TableKind) → ((field : List ℕ) × (named_kind field ≡ Some kind)) ↔ IsKnown kind
known_is_named kind = (λ named. named_known named.0 kind named.1, known_named kind)

-- a known kind with a size that fits it
sized_table : (kind : TableKind) (size : ℕ) → IsKnown kind → fits_kind kind size ≡ true → IsTable kind size
sized_table (Dwell n) size known fits = (known.0, known.1, grind (arith, nat_tests))
sized_table Eeprom size known fits = grind (arith, nat_tests)
sized_table Memory size known fits = grind (arith, nat_tests)
sized_table Wdt size known fits = grind (arith, nat_tests)
sized_table Adt size known fits = grind (arith, nat_tests)
sized_table AppMon size known fits = grind (arith, nat_tests)
sized_table EventMon size known fits = grind (arith, nat_tests)
sized_table ExeCount size known fits = grind (arith, nat_tests)
sized_table MsgActs size known fits = grind (arith, nat_tests)
sized_table (Ats n) size known fits = (known.0, known.1, grind (arith, nat_tests))
sized_table (Rts n) size known fits = (known.0, known.1, grind (arith, nat_tests))

-- a kind that a name says is one of the known tables'
known_range : (field : List ℕ) (kind : TableKind) (size : ℕ) → named_kind field ≡ Some kind → fits_kind kind size ≡ true → IsTable kind size
known_range field kind size named fits = sized_table kind size (named_known field kind named) fits

-- what a table file is read as
pub table_file : (file : List ℕ) (kind : TableKind) (payload : List ℕ) → file_fault_of file ≡ None → is_load file ≡ false → kind_of_file file ≡ Some kind → payload ≡ drop 116 file → IsTableFile file kind payload
unfolding payload_of_file
table_file file kind payload ok unloaded named is =
    let says : named_kind (table_name file) ≡ Some kind = sym (kind_named file ok unloaded) ∙ named in
    let fault : table_fault (Some kind) (table_size file) (length file - 116) ≡ None = ap (λ (k : Option TableKind). table_fault k (table_size file) (length file - 116)) (sym says) ∙ table_accepted file ok unloaded in
    let size : length payload ≡ length file - 116 = ap length is ∙ length-drop 116 file in
    record {
      kind_is = named;
      payload_is = rw unloaded is;
      size = rw size (known_range (table_name file) kind (length file - 116) says (sized kind (table_size file) (length file - 116) fault));
    }

loaded : (fault : Bool) (kind : Option TableKind) → cond (fault && not true) kind None ≡ None
loaded true kind = refl
loaded false kind = refl

-- the bytes of a load file
pub loaded_bytes : (file : List ℕ) → is_load file ≡ true → payload_of_file file ≡ drop 80 file
unfolding payload_of_file
loaded_bytes file load = rw load refl

-- they are 1 to 65,536
pub loaded_size : (file : List ℕ) → file_fault_of file ≡ None → is_load file ≡ true → (0 < length (payload_of_file file)) × (length (payload_of_file file) ≤ 65536)
loaded_size file ok load =
    let sorts = load_sorts file (as_load file ok load) in
    let well = load_well (drop 80 file) (load_size file) (load_crc file) sorts.1 in
    subst (λ (bytes : List ℕ). (0 < length bytes) × (length bytes ≤ 65536)) (sym (loaded_bytes file load)) (well.1, well.2)

-- what a load file is read as
pub load_file : (file : List ℕ) (at : ℕ) (bytes : List ℕ) → file_fault_of file ≡ None → is_load file ≡ true → at ≡ address_of_file file → bytes ≡ drop 80 file → IsLoadFile file at bytes
unfolding kind_of_file
load_file file at bytes ok load said is =
    let same : bytes ≡ payload_of_file file = is ∙ sym (loaded_bytes file load) in
    record {
      kind_is = rw load (loaded (is_none (file_fault_of file)) (named_kind (table_name file)));
      load = load;
      at_is = said;
      bytes_are = same;
      size = subst (λ (b : List ℕ). (0 < length b) × (length b ≤ 65536)) (sym same) (loaded_size file ok load);
    }

same_number : (n m : ℕ) → (n == m) ≡ true → n ≡ m
same_number n m h = grind (arith, nat_tests)

number_same : (n m : ℕ) → n ≡ m → (n == m) ≡ true
number_same n m h = grind (arith, nat_tests)

-- its subtype
is_table : (file : List ℕ) → file_fault_of file ≡ None → is_load file ≡ false → subtype file ≡ 8
unfolding is_load
is_table file ok unloaded = elim (sorted file ok).2 [
  | inl is ↦ same_number (subtype file) 8 is.0
  | inr is ↦ wrong_sort (subtype file == 100) is.1 unloaded
]

is_loaded : (file : List ℕ) → is_load file ≡ true → subtype file ≡ 100
unfolding is_load
is_loaded file load = same_number (subtype file) 100 load

none_loaded : (bytes : List ℕ) (said check : ℕ) → said ≡ length bytes → 0 < length bytes → length bytes ≤ 65536 → check ≡ crc_of 0 bytes → load_fault bytes said check ≡ None
none_loaded bytes said check is some_bytes few same = grind (arith, common_steps)

-- the headers of a table without a fault
pub headers_of : (file : List ℕ) (kind : TableKind) → file_fault_of file ≡ None → is_load file ≡ false → named_kind (table_name file) ≡ Some kind → IsTableOf file kind
headers_of file kind ok unloaded name =
    let sorts = table_sorts file (as_table file ok unloaded) in
    let fault : table_fault (Some kind) (table_size file) (length file - 116) ≡ None = ap (λ (k : Option TableKind). table_fault k (table_size file) (length file - 116)) (sym name) ∙ sorts.2 in
    record {
      long = sorts.0;
      content = same_number (content_type file) 0x63464531 (sorted file ok).1;
      sort = is_table file ok unloaded;
      whole = sorts.1;
      name = name;
      said = said_size kind (table_size file) (length file - 116) fault;
      fits = sized kind (table_size file) (length file - 116) fault;
    }

-- headers of a table leave no fault
pub no_fault : (file : List ℕ) (kind : TableKind) → IsTableOf file kind → file_fault_of file ≡ None
unfolding file_fault_of fault_of_table
no_fault file kind is =
    let long = is.long in let content = is.content in let sort = is.sort in let whole = is.whole in
    let last : table_fault (named_kind (table_name file)) (table_size file) (length file - 116) ≡ None = rw is.name (none_of_size kind (table_size file) (length file - 116) is.said is.fits) in
    grind (arith, nat_tests)

-- a table isn't to be loaded
pub table_unloaded : (file : List ℕ) (kind : TableKind) → IsTableOf file kind → is_load file ≡ false
unfolding is_load
table_unloaded file kind is = let sort : subtype file ≡ 8 = is.sort in grind (arith, nat_tests)

-- the headers of bytes to be loaded
pub load_headers : (file : List ℕ) → file_fault_of file ≡ None → is_load file ≡ true → IsLoadOf file
load_headers file ok load =
    let sorts = load_sorts file (as_load file ok load) in
    let well = load_well (drop 80 file) (load_size file) (load_crc file) sorts.1 in
    let size : length (drop 80 file) ≡ length file - 80 = length-drop 80 file in
    record {
      long = sorts.0;
      content = same_number (content_type file) 0x63464531 (sorted file ok).1;
      sort = is_loaded file load;
      said = well.0 ∙ size;
      some_bytes = omega (arith, size, well.1);
      few = omega (arith, size, well.2);
      check = well.3;
    }

-- and they leave no fault
pub no_load_fault : (file : List ℕ) → IsLoadOf file → file_fault_of file ≡ None
unfolding file_fault_of fault_of_load
no_load_fault file is =
    let long = is.long in let content = is.content in let sort = is.sort in
    let size : length (drop 80 file) ≡ length file - 80 = length-drop 80 file in
    let last : load_fault (drop 80 file) (load_size file) (load_crc file) ≡ None = none_loaded (drop 80 file) (load_size file) (load_crc file) (is.said ∙ sym size) (omega (arith, size, is.some_bytes)) (omega (arith, size, is.few)) is.check in
    grind (arith, nat_tests)

pub load_loaded : (file : List ℕ) → IsLoadOf file → is_load file ≡ true
unfolding is_load
load_loaded file is = number_same (subtype file) 100 is.sort

-- a file of a kind has no fault, and isn't to be loaded
kind_accepted : (file : List ℕ) (kind : TableKind) → kind_of_file file ≡ Some kind → (file_fault_of file ≡ None) × (is_load file ≡ false)
unfolding kind_of_file
kind_accepted file kind is = by_fault (file_fault_of file) (is_load file) is
  where
    by_fault : (fault : Option FileFault) (load : Bool) → cond (is_none fault && not load) (named_kind (table_name file)) None ≡ Some kind → (fault ≡ None) × (load ≡ false)
    by_fault None false is = (refl, refl)
    by_fault None true is = let wrong : ⊥ = cc in absurd wrong
    by_fault (Some fault) load is = let wrong : ⊥ = cc in absurd wrong

pub kind_has_headers : (file : List ℕ) (kind : TableKind) → (kind_of_file file ≡ Some kind) ↔ IsTableOf file kind
kind_has_headers file kind = (
  λ is. let ok = kind_accepted file kind is in headers_of file kind ok.0 ok.1 (sym (kind_named file ok.0 ok.1) ∙ is),
  λ is. kind_named file (no_fault file kind is) (table_unloaded file kind is) ∙ is.name,
)

has_name : (file : List ℕ) (k : Option TableKind) → file_fault_of file ≡ None → is_load file ≡ false → named_kind (table_name file) ≡ k → (kind : TableKind) × IsTableOf file kind
has_name file None ok unloaded is = absurd (named file ok unloaded is)
has_name file (Some kind) ok unloaded is = (kind, headers_of file kind ok unloaded is)

-- a file without a fault is a table or is to be loaded
pub some_sort : (file : List ℕ) → file_fault_of file ≡ None → ((kind : TableKind) × IsTableOf file kind) ⊎ IsLoadOf file
some_sort file ok = by_sort file ok (λ is unloaded. inl (has_name file (named_kind (table_name file)) ok unloaded refl)) (λ is load. inr (load_headers file ok load))

pub sort_accepted : (file : List ℕ) → ((kind : TableKind) × IsTableOf file kind) ⊎ IsLoadOf file → file_fault_of file ≡ None
sort_accepted file (inl table) = no_fault file table.0 table.1
sort_accepted file (inr load) = no_load_fault file load

pub accepted_sorts : (file : List ℕ) → IsFile file ↔ (((kind : TableKind) × IsTableOf file kind) ⊎ IsLoadOf file)
accepted_sorts file = (some_sort file, sort_accepted file)

-- what a file without a fault is: to be loaded exactly where it has those headers
pub load_has_headers : (file : List ℕ) → (IsFile file × (is_load file ≡ true)) ↔ IsLoadOf file
load_has_headers file = (λ is. load_headers file is.0 is.1, λ is. (no_load_fault file is, load_loaded file is))

pub kind_known : (file : List ℕ) (kind : TableKind) → kind_of_file file ≡ Some kind → IsKnown kind
kind_known file kind is = let ok = kind_accepted file kind is in named_known (table_name file) kind (sym (kind_named file ok.0 ok.1) ∙ is)

pub size_of_kind : (file : List ℕ) (kind : TableKind) → kind_of_file file ≡ Some kind → IsTable kind (length (payload_of_file file))
unfolding payload_of_file
size_of_kind file kind is =
    let ok = kind_accepted file kind is in
    rw ok.1 (table_file file kind (drop 116 file) ok.0 ok.1 is refl).size
