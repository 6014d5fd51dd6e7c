-- Lemmas on the bytes of a table's file: they are made again of its parts, and its parts stand in them.
use Rattle.std.proofs.Common.{◌≡◌, ℕ, zero, suc, ◌+◌, ◌-◌, ◌<◌, ◌≤◌, false, List, [], ◌∷◌, ◌++◌, length, take, drop, Some, None, refl, ap, sym, ◌∙◌, arith, length-take, length-drop, length-append, append_assoc}
use Rattle.std.proofs.Math.Seq.{take-append_seam, drop-append_seam, drop-append-add}
use Rattle.std.proofs.lemmas.List.{take-append-drop, drop-drop, get_or-drop}
use Rattle.std.specs.List.{AllByRecursion}
use Rattle.packet_forms.specs.Numbers.{be32_at, be32_bytes}
use Rattle.row_forms.specs.declared.field.Width.TheVariants.{U32}
use Rattle.row_forms.proofs.SpellingLemmas.{number_is}
use Rattle.row_forms.proofs.BackLemmas.{all_drop}
use Rattle.table_files.specs.declared.kinds.TableKind.{TableKind}
use Rattle.table_files.specs.Kinds.{IsKnown, named_kind}
use Rattle.table_files.specs.Headers.{content_type, subtype, table_offset, table_size, table_name, file_fault_of, is_load, kind_of_file, IsTableOf}
use Rattle.table_files.proofs.Accepted.{kind_named}
use Rattle.table_forms.specs.Names.{name_field}
use Rattle.table_forms.specs.Headers.{in_file, header_of, table_file}
use Rattle.table_forms.proofs.KnownLemmas.{field_named, field_is, field_long}

pub all_take : (P : ℕ → Type 0) (n : ℕ) (xs : List ℕ) → AllByRecursion P xs → AllByRecursion P (take n xs)
all_take P zero xs all = tt
all_take P (suc n) [] all = tt
all_take P (suc n) (x ∷ xs) all = (all.0, all_take P n xs all.1)

take_seam : (n : ℕ) (xs ys : List ℕ) → length xs ≡ n → take n (xs ++ ys) ≡ xs
take_seam n xs ys e = rw (← e) (take-append_seam xs ys)

drop_seam : (n : ℕ) (xs ys : List ℕ) → length xs ≡ n → drop n (xs ++ ys) ≡ ys
drop_seam n xs ys e = rw (← e) (drop-append_seam xs ys)

drop_past : (n k : ℕ) (xs ys : List ℕ) → length xs ≡ n → drop (n + k) (xs ++ ys) ≡ drop k ys
drop_past n k xs ys e = rw (← e) (drop-append-add xs ys k)

-- the first bytes behind a place, and those behind them
cut : (k n : ℕ) (xs : List ℕ) → take n (drop k xs) ++ drop (k + n) xs ≡ drop k xs
cut k n xs = ap (λ (ys : List ℕ). take n (drop k xs) ++ ys) (sym (drop-drop n k xs)) ∙ take-append-drop n (drop k xs)

-- ---- numbers of four bytes

front_number : (xs : List ℕ) → 4 ≤ length xs → be32_at (take 4 xs) 0 ≡ be32_at xs 0
unfolding be32_at
front_number [] room = absurd (omega (arith, room))
front_number (a ∷ []) room = absurd (omega (arith, room))
front_number (a ∷ b ∷ []) room = absurd (omega (arith, room))
front_number (a ∷ b ∷ c ∷ []) room = absurd (omega (arith, room))
front_number (a ∷ b ∷ c ∷ d ∷ xs) room = refl

drop_number : (xs : List ℕ) (k : ℕ) → be32_at (drop k xs) 0 ≡ be32_at xs k
unfolding be32_at
drop_number xs k = let z : k + 0 ≡ k = omega arith in rw (get_or-drop k xs 0 0, get_or-drop k xs 1 0, get_or-drop k xs 2 0, get_or-drop k xs 3 0, z) refl

-- the four bytes of a number that stands in bytes
number_there : (xs : List ℕ) (k n : ℕ) → k + 4 ≤ length xs → AllByRecursion (λ b. b < 256) xs → be32_at xs k ≡ n → take 4 (drop k xs) ≡ be32_bytes n
number_there xs k n room all e =
    let left : length (drop k xs) ≡ length xs - k = length-drop k xs in
    let long : length (take 4 (drop k xs)) ≡ 4 = simp length-take (omega (arith, room, left)) in
    let is = number_is U32 (take 4 (drop k xs)) long (all_take (λ b. b < 256) 4 (drop k xs) (all_drop (λ b. b < 256) k xs all)) in
    let same : be32_at (take 4 (drop k xs)) 0 ≡ n = front_number (drop k xs) (omega (arith, room, left)) ∙ drop_number xs k ∙ e in
    sym is.back ∙ ap be32_bytes same

-- ---- headers

in_file_parts : (a b c : List ℕ) → length a ≡ 24 → length b ≡ 4 → in_file (a ++ (b ++ c)) ≡ a ++ (c ++ b)
in_file_parts a b c long four =
    let both : length (a ++ b) ≡ 28 = rw (length-append, long, four) refl in
    let front : take 24 (a ++ (b ++ c)) ≡ a = take_seam 24 a (b ++ c) long in
    let last : drop 28 (a ++ (b ++ c)) ≡ c = ap (drop 28) (sym (append_assoc a b c)) ∙ drop_seam 28 (a ++ b) c both in
    let middle : take 4 (drop 24 (a ++ (b ++ c))) ≡ b = ap (take 4) (drop_seam 24 a (b ++ c) long) ∙ take_seam 4 b c four in
    rw (front, last, middle) refl

-- the bytes of a header are put back into their order
header_back : (b : List ℕ) → 60 ≤ length b → in_file (header_of b) ++ drop 60 b ≡ b
header_back b room =
    let long : length (take 24 b) ≡ 24 = simp length-take (omega (arith, room)) in
    let left : length (drop 56 b) ≡ length b - 56 = length-drop 56 b in
    let four : length (take 4 (drop 56 b)) ≡ 4 = simp length-take (omega (arith, room, left)) in
    let parts = in_file_parts (take 24 b) (take 4 (drop 56 b)) (take 32 (drop 24 b)) long four in
    ap (λ (xs : List ℕ). xs ++ drop 60 b) parts
    ∙ append_assoc (take 24 b) (take 32 (drop 24 b) ++ take 4 (drop 56 b)) (drop 60 b)
    ∙ ap (λ (xs : List ℕ). take 24 b ++ xs) (append_assoc (take 32 (drop 24 b)) (take 4 (drop 56 b)) (drop 60 b) ∙ ap (λ (xs : List ℕ). take 32 (drop 24 b) ++ xs) (cut 56 4 b) ∙ cut 24 32 b)
    ∙ take-append-drop 24 b

in_file_long : (row : List ℕ) → length row ≡ 60 → length (in_file row) ≡ 60
in_file_long row long =
    let a : length (take 24 row) ≡ 24 = simp length-take (omega (arith, long)) in
    let l24 : length (drop 24 row) ≡ length row - 24 = length-drop 24 row in
    let b : length (take 4 (drop 24 row)) ≡ 4 = simp length-take (omega (arith, long, l24)) in
    let c : length (drop 28 row) ≡ 32 = length-drop 28 row ∙ ap (λ (n : ℕ). n - 28) long in
    rw (length-append, length-append, a, b, c) refl

-- ---- whole files

-- a table's file is made of its header and its payload
pub file_back : (file : List ℕ) (kind : TableKind) → AllByRecursion (λ b. b < 256) file → IsTableOf file kind → table_file kind (header_of (drop 8 file)) (drop 116 file) ≡ file
unfolding content_type subtype table_offset table_size table_name be32_bytes
file_back file kind all is =
    let long = is.long in
    let payload = drop 116 file in
    let left : length payload ≡ length file - 116 = length-drop 116 file in
    let b = drop 8 file in
    let room : length b ≡ length file - 8 = length-drop 8 file in
    let c : take 4 file ≡ 0x63 ∷ 0x46 ∷ 0x45 ∷ 0x31 ∷ [] = number_there file 0 0x63464531 (omega (arith, long)) all is.content in
    let s : take 4 (drop 4 file) ≡ 0 ∷ 0 ∷ 0 ∷ 8 ∷ [] = number_there file 4 8 (omega (arith, long)) all is.sort in
    let o : take 4 (drop 68 file) ≡ 0 ∷ 0 ∷ 0 ∷ 0 ∷ [] = number_there file 68 0 (omega (arith, long)) all is.whole in
    let z : take 4 (drop 72 file) ≡ be32_bytes (length payload) = number_there file 72 (length payload) (omega (arith, long)) all (is.said ∙ sym left) in
    let rest : length (drop 76 file) ≡ length file - 76 = length-drop 76 file in
    let forty : length (take 40 (drop 76 file)) ≡ 40 = simp length-take (omega (arith, long, rest)) in
    let m : take 40 (drop 76 file) ≡ name_field kind = field_is (take 40 (drop 76 file)) kind forty is.name in
    let d76 : name_field kind ++ payload ≡ drop 76 file = ap (λ (xs : List ℕ). xs ++ payload) (sym m) ∙ cut 76 40 file in
    let d72 : be32_bytes (length payload) ++ (name_field kind ++ payload) ≡ drop 72 file = ap (λ (xs : List ℕ). be32_bytes (length payload) ++ xs) d76 ∙ ap (λ (xs : List ℕ). xs ++ drop 76 file) (sym z) ∙ cut 72 4 file in
    let d68 : 0 ∷ 0 ∷ 0 ∷ 0 ∷ (be32_bytes (length payload) ++ (name_field kind ++ payload)) ≡ drop 68 file = ap (λ (xs : List ℕ). 0 ∷ 0 ∷ 0 ∷ 0 ∷ xs) d72 ∙ ap (λ (xs : List ℕ). xs ++ drop 72 file) (sym o) ∙ cut 68 4 file in
    let d8 : in_file (header_of b) ++ (0 ∷ 0 ∷ 0 ∷ 0 ∷ (be32_bytes (length payload) ++ (name_field kind ++ payload))) ≡ b = ap (λ (xs : List ℕ). in_file (header_of b) ++ xs) (d68 ∙ sym (drop-drop 60 8 file)) ∙ header_back b (omega (arith, long, room)) in
    ap (λ (xs : List ℕ). 0x63 ∷ 0x46 ∷ 0x45 ∷ 0x31 ∷ 0 ∷ 0 ∷ 0 ∷ 8 ∷ xs) d8
    ∙ ap (λ (xs : List ℕ). 0x63 ∷ 0x46 ∷ 0x45 ∷ 0x31 ∷ (xs ++ drop 8 file)) (sym s)
    ∙ ap (λ (xs : List ℕ). 0x63 ∷ 0x46 ∷ 0x45 ∷ 0x31 ∷ xs) (cut 4 4 file)
    ∙ ap (λ (xs : List ℕ). xs ++ drop 4 file) (sym c)
    ∙ take-append-drop 4 file

made_name : (kind : TableKind) (row payload : List ℕ) → IsKnown kind → length row ≡ 60 → table_name (table_file kind row payload) ≡ name_field kind
unfolding table_name be32_bytes
made_name kind row payload known long =
    let rest = 0 ∷ 0 ∷ 0 ∷ 0 ∷ (be32_bytes (length payload) ++ (name_field kind ++ payload)) in
    let past : drop (60 + 8) (in_file row ++ rest) ≡ name_field kind ++ payload = drop_past 60 8 (in_file row) rest (in_file_long row long) in
    ap (take 40) past ∙ take_seam 40 (name_field kind) payload (field_long kind known)

made_unloaded : (kind : TableKind) (row payload : List ℕ) → is_load (table_file kind row payload) ≡ false
unfolding is_load subtype be32_at
made_unloaded kind row payload = refl

-- a file that is made of a header and a payload is of its kind, where it has no fault
pub made_kind : (kind : TableKind) (row payload : List ℕ) → IsKnown kind → length row ≡ 60 → file_fault_of (table_file kind row payload) ≡ None → kind_of_file (table_file kind row payload) ≡ Some kind
made_kind kind row payload known long well =
    kind_named (table_file kind row payload) well (made_unloaded kind row payload)
    ∙ ap named_kind (made_name kind row payload known long) ∙ field_named kind known
