-- Lemmas on the bytes of files to be loaded: they are made again of their parts, and their parts stand in them.
use Rattle.std.proofs.Common.{◌≡◌, ℕ, ◌+◌, ◌-◌, ◌/◌, ◌<◌, ◌≤◌, Bool, true, false, List, [], ◌∷◌, ◌++◌, length, take, drop, refl, ap, sym, ◌∙◌, arith, length-take, length-drop, length-append, append_assoc}
use Rattle.std.specs.Prelude.{◌==◌, ◌%◌, bit_xor, cond}
use Rattle.std.specs.List.{AllByRecursion, fold, flat_map}
use Rattle.std.proofs.lemmas.Nat.{xor_lt}
use Rattle.std.proofs.lemmas.List.{take-append-drop}
use Rattle.packet_forms.specs.Crc.{crc_of, crc_bit, low_bits}
use Rattle.packet_forms.specs.Numbers.{be32_at, be32_bytes}
use Rattle.table_files.specs.Headers.{content_type, subtype, load_size, load_crc, address_of_file, payload_of_file, IsLoadOf}
use Rattle.table_files.proofs.Accepted.{load_loaded, loaded_bytes}
use Rattle.load_texts.proofs.BytesLemmas.{take_seam, drop_seam, drop_past, cut, drop_number, number_there}
use Rattle.load_texts.specs.Loads.{first_header, load_of, load_row}

-- ---- checks

bit_by : (c : ℕ) (odd : Bool) → c < 65536 → cond odd (bit_xor (c / 2) 0xA001) (c / 2) < 65536
bit_by c true small = xor_lt 16 (c / 2) 0xA001 (omega (arith, small)) (omega arith)
bit_by c false small = omega (arith, small)

bit_small : (c b : ℕ) → c < 65536 → crc_bit c b < 65536
unfolding crc_bit
bit_small c b small = bit_by c ((c + b) % 2 == 1) small

bits_small : (bits : List ℕ) (c : ℕ) → c < 65536 → fold crc_bit c bits < 65536
bits_small [] c small = small
bits_small (b ∷ bits) c small = bits_small bits (crc_bit c b) (bit_small c b small)

-- a check has 16 bits
check_small : (bytes : List ℕ) → crc_of 0 bytes < 65536
unfolding crc_of
check_small bytes = bits_small (flat_map (low_bits 8) bytes) 0 (omega arith)

-- ---- numbers of four bytes

number_led : (n : ℕ) (rest : List ℕ) → n < 4294967296 → be32_at (be32_bytes n ++ rest) 0 ≡ n
unfolding be32_at be32_bytes
number_led n rest small = omega (arith, small)

front_led : (a rest : List ℕ) → length a ≡ 4 → be32_at (a ++ rest) 0 ≡ be32_at a 0
unfolding be32_at
front_led [] rest e = absurd (omega (arith, e))
front_led (x ∷ []) rest e = absurd (omega (arith, e))
front_led (x ∷ y ∷ []) rest e = absurd (omega (arith, e))
front_led (x ∷ y ∷ z ∷ []) rest e = absurd (omega (arith, e))
front_led (x ∷ y ∷ z ∷ w ∷ a) rest e = refl

four_bytes : (n : ℕ) → length (be32_bytes n) ≡ 4
unfolding be32_bytes
four_bytes n = refl

-- ---- the parts of a file

header_long : (row : List ℕ) → length row ≡ 60 → length (first_header row) ≡ 64
header_long row long =
    let a : length (take 24 row) ≡ 24 = simp length-take (omega (arith, long)) in
    let b : length (drop 28 row) ≡ 32 = length-drop 28 row ∙ ap (λ (n : ℕ). n - 28) long in
    rw (length-append, a, b) refl

last_long : (row : List ℕ) → length row ≡ 60 → length (take 4 (drop 24 row)) ≡ 4
last_long row long =
    let left : length (drop 24 row) ≡ length row - 24 = length-drop 24 row in
    simp length-take (omega (arith, long, left))

-- the bytes behind the first header
abbrev behind_header : List ℕ → List ℕ → List ℕ → List ℕ
behind_header address row bytes = address ++ (be32_bytes (length bytes) ++ (be32_bytes (crc_of 0 bytes) ++ (take 4 (drop 24 row) ++ bytes)))

pub record HasParts (address row bytes : List ℕ) : Type 0 where
  pub long : length (load_of address row bytes) ≡ length bytes + 80
  pub at : be32_at (load_of address row bytes) 64 ≡ be32_at address 0
  pub size : be32_at (load_of address row bytes) 68 ≡ length bytes
  pub check : be32_at (load_of address row bytes) 72 ≡ crc_of 0 bytes
  pub payload : drop 80 (load_of address row bytes) ≡ bytes

pub parts_are : (address row bytes : List ℕ) → length address ≡ 4 → length row ≡ 60 → length bytes ≤ 65536 → HasParts address row bytes
unfolding be32_bytes
parts_are address row bytes four long few =
    let h = first_header row in
    let header = header_long row long in
    let last = last_long row long in
    let r = take 4 (drop 24 row) in
    let z = be32_bytes (length bytes) in
    let k = be32_bytes (crc_of 0 bytes) in
    let tail : length (r ++ bytes) ≡ 4 + length bytes = rw (length-append, last) refl in
    let t72 = k ++ (r ++ bytes) in
    let t68 = z ++ t72 in
    let t64 = address ++ t68 in
    let d64 : drop 64 (h ++ t64) ≡ t64 = drop_seam 64 h t64 header in
    let d68 : drop (64 + 4) (h ++ t64) ≡ t68 = drop_past 64 4 h t64 header ∙ drop_seam 4 address t68 four in
    let d72 : drop (64 + 8) (h ++ t64) ≡ t72 = drop_past 64 8 h t64 header ∙ drop_past 4 4 address t68 four in
    let d80 : drop (64 + 16) (h ++ t64) ≡ bytes = drop_past 64 16 h t64 header ∙ drop_past 4 12 address t68 four ∙ drop_seam 4 r bytes last in
    record {
      long = length-append h t64 ∙ (let all : length t64 ≡ length address + length t68 = length-append address t68 in let rest : length t68 ≡ 8 + length (r ++ bytes) = omega arith in omega (arith, header, all, rest, four, tail));
      at = sym (drop_number (h ++ t64) 64) ∙ ap (λ (xs : List ℕ). be32_at xs 0) d64 ∙ front_led address t68 four;
      size = sym (drop_number (h ++ t64) 68) ∙ ap (λ (xs : List ℕ). be32_at xs 0) d68 ∙ number_led (length bytes) t72 (omega (arith, few));
      check = sym (drop_number (h ++ t64) 72) ∙ ap (λ (xs : List ℕ). be32_at xs 0) d72 ∙ number_led (crc_of 0 bytes) (r ++ bytes) (let small = check_small bytes in omega (arith, small));
      payload = d80;
    }

made_content : (address row bytes : List ℕ) → content_type (load_of address row bytes) ≡ 0x63464531
unfolding content_type be32_at
made_content address row bytes = refl

made_sort : (address row bytes : List ℕ) → subtype (load_of address row bytes) ≡ 100
unfolding subtype be32_at
made_sort address row bytes = refl

made_size : (address row bytes : List ℕ) → HasParts address row bytes → load_size (load_of address row bytes) ≡ length (load_of address row bytes) - 80
unfolding load_size
made_size address row bytes has = has.size ∙ (let long = has.long in omega (arith, long))

made_check : (address row bytes : List ℕ) → HasParts address row bytes → load_crc (load_of address row bytes) ≡ crc_of 0 (drop 80 (load_of address row bytes))
unfolding load_crc
made_check address row bytes has = has.check ∙ ap (crc_of 0) (sym has.payload)

-- a file that is made is accepted
pub made_load : (address row bytes : List ℕ) → HasParts address row bytes → 0 < length bytes → length bytes ≤ 65536 → IsLoadOf (load_of address row bytes)
made_load address row bytes has some few =
    let long = has.long in
    record {
      long = omega (arith, long);
      content = made_content address row bytes;
      sort = made_sort address row bytes;
      said = made_size address row bytes has;
      some_bytes = omega (arith, long, some);
      few = omega (arith, long, few);
      check = made_check address row bytes has;
    }

pub made_address : (address row bytes : List ℕ) → HasParts address row bytes → address_of_file (load_of address row bytes) ≡ be32_at address 0
unfolding address_of_file
made_address address row bytes has = has.at

pub made_payload : (address row bytes : List ℕ) → HasParts address row bytes → IsLoadOf (load_of address row bytes) → payload_of_file (load_of address row bytes) ≡ bytes
made_payload address row bytes has is = loaded_bytes (load_of address row bytes) (load_loaded (load_of address row bytes) is) ∙ has.payload

-- ---- files that are made again

row_long : (file : List ℕ) → 80 ≤ length file → (length (take 24 (drop 8 file)) ≡ 24) × (length (take 4 (drop 76 file)) ≡ 4) × (length (take 32 (drop 32 file)) ≡ 32)
row_long file room =
    let l8 : length (drop 8 file) ≡ length file - 8 = length-drop 8 file in
    let l76 : length (drop 76 file) ≡ length file - 76 = length-drop 76 file in
    let l32 : length (drop 32 file) ≡ length file - 32 = length-drop 32 file in
    (simp length-take (omega (arith, room, l8)), simp length-take (omega (arith, room, l76)), simp length-take (omega (arith, room, l32)))

pub sixty : (file : List ℕ) → 80 ≤ length file → length (load_row file) ≡ 60
sixty file room = let are = row_long file room in rw (length-append, length-append, are.0, are.1, are.2) refl

header_parts : (a r d : List ℕ) → length a ≡ 24 → length r ≡ 4 → first_header (a ++ (r ++ d)) ≡ 0x63 ∷ 0x46 ∷ 0x45 ∷ 0x31 ∷ 0 ∷ 0 ∷ 0 ∷ 100 ∷ (a ++ d)
header_parts a r d long four =
    let both : length (a ++ r) ≡ 28 = rw (length-append, long, four) refl in
    let front : take 24 (a ++ (r ++ d)) ≡ a = take_seam 24 a (r ++ d) long in
    let last : drop 28 (a ++ (r ++ d)) ≡ d = ap (drop 28) (sym (append_assoc a r d)) ∙ drop_seam 28 (a ++ r) d both in
    rw (front, last) refl

last_part : (a r d : List ℕ) → length a ≡ 24 → length r ≡ 4 → take 4 (drop 24 (a ++ (r ++ d))) ≡ r
last_part a r d long four = ap (take 4) (drop_seam 24 a (r ++ d) long) ∙ take_seam 4 r d four

-- a file is made of its address, the row of its headers, and its bytes
pub load_back : (file : List ℕ) → AllByRecursion (λ b. b < 256) file → IsLoadOf file → load_of (take 4 (drop 64 file)) (load_row file) (drop 80 file) ≡ file
unfolding content_type subtype load_size load_crc be32_bytes
load_back file all is =
    let room = is.long in
    let are = row_long file room in
    let bytes = drop 80 file in
    let a = take 24 (drop 8 file) in
    let r = take 4 (drop 76 file) in
    let d = take 32 (drop 32 file) in
    let left : length bytes ≡ length file - 80 = length-drop 80 file in
    let c : take 4 file ≡ 0x63 ∷ 0x46 ∷ 0x45 ∷ 0x31 ∷ [] = number_there file 0 0x63464531 (omega (arith, room)) all is.content in
    let s : take 4 (drop 4 file) ≡ 0 ∷ 0 ∷ 0 ∷ 100 ∷ [] = number_there file 4 100 (omega (arith, room)) all is.sort in
    let z : take 4 (drop 68 file) ≡ be32_bytes (length bytes) = number_there file 68 (length bytes) (omega (arith, room)) all (is.said ∙ sym left) in
    let k : take 4 (drop 72 file) ≡ be32_bytes (crc_of 0 bytes) = number_there file 72 (crc_of 0 bytes) (omega (arith, room)) all is.check in
    let d76 : r ++ bytes ≡ drop 76 file = cut 76 4 file in
    let d72 : be32_bytes (crc_of 0 bytes) ++ (r ++ bytes) ≡ drop 72 file = ap (λ (xs : List ℕ). be32_bytes (crc_of 0 bytes) ++ xs) d76 ∙ ap (λ (xs : List ℕ). xs ++ drop 76 file) (sym k) ∙ cut 72 4 file in
    let d68 : be32_bytes (length bytes) ++ (be32_bytes (crc_of 0 bytes) ++ (r ++ bytes)) ≡ drop 68 file = ap (λ (xs : List ℕ). be32_bytes (length bytes) ++ xs) d72 ∙ ap (λ (xs : List ℕ). xs ++ drop 72 file) (sym z) ∙ cut 68 4 file in
    let d64 : take 4 (drop 64 file) ++ (be32_bytes (length bytes) ++ (be32_bytes (crc_of 0 bytes) ++ (r ++ bytes))) ≡ drop 64 file = ap (λ (xs : List ℕ). take 4 (drop 64 file) ++ xs) d68 ∙ cut 64 4 file in
    let d8 : (a ++ d) ++ drop 64 file ≡ drop 8 file = append_assoc a d (drop 64 file) ∙ ap (λ (xs : List ℕ). a ++ xs) (cut 32 32 file) ∙ cut 8 24 file in
    ap (λ (xs : List ℕ). xs ++ (take 4 (drop 64 file) ++ (be32_bytes (length bytes) ++ (be32_bytes (crc_of 0 bytes) ++ (take 4 (drop 24 (load_row file)) ++ bytes))))) (header_parts a r d are.0 are.1)
    ∙ ap (λ (xs : List ℕ). 0x63 ∷ 0x46 ∷ 0x45 ∷ 0x31 ∷ 0 ∷ 0 ∷ 0 ∷ 100 ∷ ((a ++ d) ++ (take 4 (drop 64 file) ++ (be32_bytes (length bytes) ++ (be32_bytes (crc_of 0 bytes) ++ (xs ++ bytes)))))) (last_part a r d are.0 are.1)
    ∙ ap (λ (xs : List ℕ). 0x63 ∷ 0x46 ∷ 0x45 ∷ 0x31 ∷ 0 ∷ 0 ∷ 0 ∷ 100 ∷ ((a ++ d) ++ xs)) d64
    ∙ ap (λ (xs : List ℕ). 0x63 ∷ 0x46 ∷ 0x45 ∷ 0x31 ∷ 0 ∷ 0 ∷ 0 ∷ 100 ∷ xs) d8
    ∙ ap (λ (xs : List ℕ). 0x63 ∷ 0x46 ∷ 0x45 ∷ 0x31 ∷ (xs ++ drop 8 file)) (sym s)
    ∙ ap (λ (xs : List ℕ). 0x63 ∷ 0x46 ∷ 0x45 ∷ 0x31 ∷ xs) (cut 4 4 file)
    ∙ ap (λ (xs : List ℕ). xs ++ drop 4 file) (sym c)
    ∙ take-append-drop 4 file
