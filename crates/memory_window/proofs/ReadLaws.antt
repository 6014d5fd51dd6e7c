-- Reads of memory: the bytes at the addresses of a range, and the same range after its bytes were changed.
use Rattle.std.proofs.Common.{◌≡◌, ℕ, zero, suc, ◌+◌, ◌-◌, ◌/◌, ◌<◌, ◌≤◌, Bool, true, false, List, [], ◌∷◌, length, get_or, drop, All, None, Some, Option, Ok, Err, slice_get, option_map, refl, sym, ap, subst, ◌∙◌, arith, length-drop, length-take, add-zero, if◌then◌else◌}
use Rattle.std.specs.Prelude.{nat_eq, not, ◌%◌, ◌||◌}
use Rattle.std.specs.List.{list_any}
use Rattle.std.proofs.lemmas.Grind.{common_steps}
use Rattle.std.proofs.lemmas.Bool.Decides.{nat_tests}
use Rattle.std.proofs.lemmas.List.{get_or-take, get_or-drop}
use Rattle.memory_window.specs.declared.access.AccessFault.{AccessFault}
use Rattle.memory_window.specs.declared.operations.MemOp.{MemOp}
use Rattle.memory_window.specs.declared.regions.Region.{Region}
use Rattle.memory_window.specs.Landing.{covers, land_byte, landed, land}
use Rattle.memory_window.specs.Regions.{spans, meet, has_overlap, allows, unit_of}
use Rattle.memory_window.specs.Numbers.{number_of}
use Rattle.memory_window.specs.Memory.{Area, Memory, home, part_of, byte_in, changed, each_from, regions_of}
use Rattle.memory_window.specs.Access.{read_in, read_of, bytes_in, bytes_of}
use Rattle.memory_window.specs.Reading.{IsFilled, IsWhole, StandAt}
use Rattle.memory_window.proofs.BankLaws.{part_alone}
use Rattle.memory_window.proofs.Maps.{map-facts}

-- an area whose bytes are each changed
abbrev pub change : (ℕ → ℕ → ℕ) → Area → Area
change f r = record { region = r.region; bytes = each_from f r.region.start r.bytes }

change-found : (f : ℕ → ℕ → ℕ) (b : Bool) (r : Area) (rest others : Option Area) → rest ≡ option_map (change f) others → (if b then Some (change f r) else rest) ≡ option_map (change f) (if b then Some r else others)
change-found f true r rest others same = refl
change-found f false r rest others same = same

-- a range lies in the changed area where it lay in the area
pub home-changed : (f : ℕ → ℕ → ℕ) (areas : List Area) (at n : ℕ) → home (changed f areas) at n ≡ option_map (change f) (home areas at n)
home-changed f [] at n = refl
home-changed f (r ∷ areas) at n = change-found f (spans at n r.region) r (home (changed f areas) at n) (home areas at n) (home-changed f areas at n)

-- what holds of an area in which a range lies
pub record IsHome (areas : List Area) (at n : ℕ) (r : Area) : Type 0 where
  pub spanned : spans at n r.region ≡ true
  pub filled : All IsFilled areas → IsFilled r

pub home-is : (areas : List Area) (at n : ℕ) (r : Area) → home areas at n ≡ Some r → IsHome areas at n r
home-is [] at n r is = absurd (cc)
home-is (a ∷ areas) at n r is = by_test (spans at n a.region) refl is (home-is areas at n r)
  where
    by_test : (b : Bool) → spans at n a.region ≡ b → (if b then Some a else home areas at n) ≡ Some r → (home areas at n ≡ Some r → IsHome areas at n r) → IsHome (a ∷ areas) at n r
    by_test true spanned is later = let same : a ≡ r = cc in subst (IsHome (a ∷ areas) at n) same (record { spanned = spanned; filled = λ all. all 0 a (omega arith) })
    by_test false beyond is later = let rest = later is in record { spanned = rest.spanned; filled = λ all. rest.filled (λ k d within. all (suc k) d (omega arith)) }

-- a test of regions that none passes isn't passed by that of a range
pub home-passes : (p : Region → Bool) (areas : List Area) (at n : ℕ) (r : Area) → home areas at n ≡ Some r → list_any p (regions_of areas) ≡ false → p r.region ≡ false
home-passes p [] at n r is none = absurd (cc)
home-passes p (a ∷ areas) at n r is none = by_test (spans at n a.region) is (λ behind. home-passes p areas at n r behind (grind (arith, common_steps)))
  where
    by_test : (b : Bool) → (if b then Some a else home areas at n) ≡ Some r → (home areas at n ≡ Some r → p r.region ≡ false) → p r.region ≡ false
    by_test true is later = let same : a ≡ r = cc in subst (λ (area : Area). p area.region ≡ false) same (grind (arith, common_steps))
    by_test false is later = later is

both-meet : (r s : Region) (at n k : ℕ) → k < n → spans (at + k) 1 r ≡ true → spans at n s ≡ true → meet r s ≡ true
both-meet r s at n k lt one whole = grind (arith, nat_tests)

one-spanned : (r : Region) (at n k : ℕ) → k < n → spans at n r ≡ true → spans (at + k) 1 r ≡ true
one-spanned r at n k lt whole = grind (arith, nat_tests)

-- each address of a range lies in the area of the range, where no two regions share an address
pub home-one : (areas : List Area) (at n k : ℕ) (r : Area) → has_overlap (regions_of areas) ≡ false → home areas at n ≡ Some r → k < n → home areas (at + k) 1 ≡ Some r
home-one [] at n k r apart is lt = absurd (cc)
home-one (a ∷ areas) at n k r apart is lt =
    let rest : has_overlap (regions_of areas) ≡ false = grind (arith, common_steps) in
    by_test (spans at n a.region) refl is (λ behind. home-one areas at n k r rest behind lt)
  where
    unmet : home areas at n ≡ Some r → (b : Bool) → spans (at + k) 1 a.region ≡ b → b ≡ false
    unmet is false none = refl
    unmet is true one =
        let first : list_any (meet a.region) (regions_of areas) ≡ false = grind (arith, common_steps) in
        let no : meet a.region r.region ≡ false = home-passes (meet a.region) areas at n r is first in
        let yes : meet a.region r.region ≡ true = both-meet a.region r.region at n k lt one (home-is areas at n r is).spanned in
        absurd (cc)

    by_test : (b : Bool) → spans at n a.region ≡ b → (if b then Some a else home areas at n) ≡ Some r → (home areas at n ≡ Some r → home areas (at + k) 1 ≡ Some r) → home (a ∷ areas) (at + k) 1 ≡ Some r
    by_test true spanned is later = rw (one-spanned a.region at n k lt spanned) is
    by_test false beyond is later =
        let behind : home areas (at + k) 1 ≡ Some r = later is in
        let none : spans (at + k) 1 a.region ≡ false = unmet is (spans (at + k) 1 a.region) refl in
        rw none behind

get-within : (xs : List ℕ) (i : ℕ) → i < length xs → slice_get xs i ≡ Some (get_or xs i 0)
get-within [] i lt = absurd (omega arith)
get-within (x ∷ xs) zero lt = refl
get-within (x ∷ xs) (suc i) lt = get-within xs i (omega arith)

-- the bytes of a range in its area, one by one
pub part-byte : (r : Area) (at n k : ℕ) → spans at n r.region ≡ true → IsFilled r → k < n → byte_in (at + k) (Some r) ≡ Some (get_or (part_of at n r) k 0)
part-byte r at n k spanned filled lt =
    let whole : length r.bytes ≡ r.region.len = filled in
    let from : r.region.start ≤ at = grind (arith, nat_tests) in
    let to : at + n ≤ r.region.start + r.region.len = grind (arith, nat_tests) in
    let place : at - r.region.start + k ≡ at + k - r.region.start = omega arith in
    get-within r.bytes (at + k - r.region.start) (omega arith)
    ∙ ap Some (ap (λ (i : ℕ). get_or r.bytes i 0) (sym place) ∙ sym (get_or-take n (drop (at - r.region.start) r.bytes) k 0 lt ∙ get_or-drop (at - r.region.start) r.bytes k 0))

pub length-part : (r : Area) (at n : ℕ) → spans at n r.region ≡ true → IsFilled r → length (part_of at n r) ≡ n
length-part r at n spanned filled =
    let whole : length r.bytes ≡ r.region.len = filled in
    let from : r.region.start ≤ at = grind (arith, nat_tests) in
    let to : at + n ≤ r.region.start + r.region.len = grind (arith, nat_tests) in
    omega (arith, length-take n (drop (at - r.region.start) r.bytes), length-drop (at - r.region.start) r.bytes)

-- a range of an area after its bytes were changed
pub part-change : (f : ℕ → ℕ → ℕ) (r : Area) (at n : ℕ) → spans at n r.region ≡ true → part_of at n (change f r) ≡ each_from f at (part_of at n r)
part-change f r at n spanned =
    let from : r.region.start ≤ at = grind (arith, nat_tests) in
    let there : r.region.start + (at - r.region.start) ≡ at = omega arith in
    part_alone f r.region.start (at - r.region.start) n r.bytes ∙ ap (λ (a : ℕ). each_from f a (part_of at n r)) there

-- the bytes of a whole memory's range stand at its addresses
pub part-stands : (m : Memory) (at n : ℕ) (r : Area) → IsWhole m → home m.areas at n ≡ Some r → (length (part_of at n r) ≡ n) × StandAt m.areas at (part_of at n r)
part-stands m at n r whole is =
    let here : IsHome m.areas at n r = home-is m.areas at n r is in
    let filled : IsFilled r = here.filled whole.filled in
    let long : length (part_of at n r) ≡ n = length-part r at n here.spanned filled in (
      long,
      λ k lt. let within : k < n = omega arith in
          ap (byte_in (at + k)) (home-one m.areas at n k r (map-facts (regions_of m.areas) whole.map).apart is within) ∙ part-byte r at n k here.spanned filled within,
    )

range-area : (at len : ℕ) (found : Option Area) (bytes : List ℕ) → bytes_in at len found ≡ Ok bytes → (r : Area) × (found ≡ Some r) × (bytes ≡ part_of at len r)
range-area at len None bytes is = absurd (cc)
range-area at len (Some r) bytes is = (r, refl, by_tests (nat_eq (at % unit_of r.region.kind) 0) (nat_eq (len % unit_of r.region.kind) 0) is)
  where
    by_tests : (a b : Bool) → (if not a || not b then Err AccessFault.Unaligned else Ok (part_of at len r)) ≡ Ok bytes → bytes ≡ part_of at len r
    by_tests true true is = cc
    by_tests true false is = absurd (cc)
    by_tests false b is = absurd (cc)

read-area : (size at : ℕ) (found : Option Area) (value : ℕ) → read_in size at found ≡ Ok value → (r : Area) × (found ≡ Some r) × (value ≡ number_of (part_of at (size / 8) r))
read-area size at None value is = absurd (cc)
read-area size at (Some r) value is = (r, refl, by_tests (nat_eq (at % (size / 8)) 0) (allows r.region.kind size) is)
  where
    by_tests : (a b : Bool) → (if not a then Err AccessFault.Unaligned else if not b then Err AccessFault.WrongSize else Ok (number_of (part_of at (size / 8) r))) ≡ Ok value → value ≡ number_of (part_of at (size / 8) r)
    by_tests true true is = cc
    by_tests true false is = absurd (cc)
    by_tests false b is = absurd (cc)

pub range-stands : (m : Memory) → IsWhole m → (at len : ℕ) (bytes : List ℕ) → bytes_of m at len ≡ Ok bytes → (length bytes ≡ len) × StandAt m.areas at bytes
range-stands m whole at len bytes is =
    let found = range-area at len (home m.areas at len) bytes is in
    subst (λ (xs : List ℕ). (length xs ≡ len) × StandAt m.areas at xs) (sym found.2) (part-stands m at len found.0 whole found.1)

pub read-stands : (m : Memory) → IsWhole m → (size at value : ℕ) → read_of size m at ≡ Ok value → (bytes : List ℕ) × (length bytes ≡ size / 8) × StandAt m.areas at bytes × (value ≡ number_of bytes)
read-stands m whole size at value is =
    let found = read-area size at (home m.areas at (size / 8)) value is in
    let stands = part-stands m at (size / 8) found.0 whole found.1 in
    (part_of at (size / 8) found.0, stands.0, stands.1, found.2)

-- bytes that a function of their addresses leaves alone
each-alone : (f : ℕ → ℕ → ℕ) (at : ℕ) (xs : List ℕ) → ((k x : ℕ) → k < length xs → f (at + k) x ≡ x) → each_from f at xs ≡ xs
each-alone f at [] same = refl
each-alone f at (x ∷ xs) same =
    let here : f at x ≡ x = ap (λ (a : ℕ). f a x) (sym (add-zero at)) ∙ same 0 x (omega arith) in
    let behind : each_from f (at + 1) xs ≡ xs = each-alone f (at + 1) xs (λ k y lt. ap (λ (a : ℕ). f a y) (one_on k) ∙ same (suc k) y (omega arith)) in
    rw (here, behind) refl
  where
    one_on : (k : ℕ) → at + 1 + k ≡ at + suc k
    one_on k = omega arith

part-alone : (f : ℕ → ℕ → ℕ) (r : Area) (at n : ℕ) → spans at n r.region ≡ true → ((k x : ℕ) → k < n → f (at + k) x ≡ x) → part_of at n (change f r) ≡ part_of at n r
part-alone f r at n spanned same =
    part-change f r at n spanned ∙ each-alone f at (part_of at n r) (λ k x lt. same k x (omega (arith, length-take n (drop (at - r.region.start) r.bytes))))

range-alone : (f : ℕ → ℕ → ℕ) (at len : ℕ) (found : Option Area) → ((r : Area) → found ≡ Some r → part_of at len (change f r) ≡ part_of at len r) → bytes_in at len (option_map (change f) found) ≡ bytes_in at len found
range-alone f at len None same = refl
range-alone f at len (Some r) same = ap (λ (xs : List ℕ). if not (nat_eq (at % unit_of r.region.kind) 0) || not (nat_eq (len % unit_of r.region.kind) 0) then Err AccessFault.Unaligned else Ok xs) (same r refl)

read-alone : (f : ℕ → ℕ → ℕ) (size at : ℕ) (found : Option Area) → ((r : Area) → found ≡ Some r → part_of at (size / 8) (change f r) ≡ part_of at (size / 8) r) → read_in size at (option_map (change f) found) ≡ read_in size at found
read-alone f size at None same = refl
read-alone f size at (Some r) same = ap (λ (xs : List ℕ). if not (nat_eq (at % (size / 8)) 0) then Err AccessFault.Unaligned else if not (allows r.region.kind size) then Err AccessFault.WrongSize else Ok (number_of xs)) (same r refl)

-- a byte that no operation covers
pub uncovered : (loads : List (ℕ × List ℕ)) (ops : List MemOp) (a x : ℕ) → list_any (λ op. covers op a) ops ≡ false → landed loads ops a x ≡ x
uncovered loads [] a x none = refl
uncovered loads (op ∷ ops) a x none =
    let here : covers op a ≡ false = grind (arith, common_steps) in
    let behind : list_any (λ o. covers o a) ops ≡ false = grind (arith, common_steps) in
    let same : land_byte loads op a x ≡ x = rw here refl in
    ap (λ (y : ℕ). landed loads ops a y) same ∙ uncovered loads ops a x behind

pub range-before : (loads : List (ℕ × List ℕ)) (ops : List MemOp) (m : Memory) (at len : ℕ) → ((k : ℕ) → k < len → list_any (λ op. covers op (at + k)) ops ≡ false) → bytes_of (land loads ops m) at len ≡ bytes_of m at len
range-before loads ops m at len none =
    ap (bytes_in at len) (home-changed (landed loads ops) m.areas at len)
    ∙ range-alone (landed loads ops) at len (home m.areas at len) (λ r is. part-alone (landed loads ops) r at len (home-is m.areas at len r is).spanned (λ k x lt. uncovered loads ops (at + k) x (none k lt)))

pub read-before : (loads : List (ℕ × List ℕ)) (ops : List MemOp) (m : Memory) (size at : ℕ) → ((k : ℕ) → k < size / 8 → list_any (λ op. covers op (at + k)) ops ≡ false) → read_of size (land loads ops m) at ≡ read_of size m at
read-before loads ops m size at none =
    ap (read_in size at) (home-changed (landed loads ops) m.areas at (size / 8))
    ∙ read-alone (landed loads ops) size at (home m.areas at (size / 8)) (λ r is. part-alone (landed loads ops) r at (size / 8) (home-is m.areas at (size / 8) r is).spanned (λ k x lt. uncovered loads ops (at + k) x (none k lt)))
