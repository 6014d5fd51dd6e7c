-- What the range of an admitted write reads once the write has landed.
use Rattle.std.proofs.Common.{◌≡◌, ℕ, ◌+◌, ◌-◌, ◌/◌, ◌<◌, Bool, true, false, List, [], ◌∷◌, ◌++◌, length, get_or, replicate, None, Some, Option, Ok, Err, option_map, refl, sym, ap, subst, ◌∙◌, arith, add-zero, if◌then◌else◌}
use Rattle.std.specs.Prelude.{nat_eq, nat_le, nat_lt, not, ◌*◌, ◌%◌, ◌^◌, ◌||◌}
use Rattle.std.proofs.lemmas.Bool.Decides.{nat_tests}
use Rattle.std.proofs.lemmas.List.{length-replicate, get_or-replicate}
use Rattle.std.proofs.lemmas.List.Sums.{fold_push}
use Rattle.memory_window.specs.declared.access.AccessFault.{AccessFault}
use Rattle.memory_window.specs.declared.operations.MemOp.{MemOp}
use Rattle.memory_window.specs.declared.operations.MemOp.TheVariants.{Poke, Fill, Bytes, FromFile}
use Rattle.memory_window.specs.declared.regions.Region.{Region}
use Rattle.memory_window.specs.Operations.{is_size, op_at, op_len, op_byte, bytes_loaded, load_bytes, IsBacked}
use Rattle.memory_window.specs.Landing.{land_byte, landed, land}
use Rattle.memory_window.specs.Regions.{allows, unit_of}
use Rattle.memory_window.specs.Numbers.{number_of}
use Rattle.memory_window.specs.Memory.{Area, Memory, home, part_of, each_from}
use Rattle.memory_window.specs.Access.{read_in, read_of, bytes_in, bytes_of, is_guarded, unless_guarded, Admitted}
use Rattle.memory_window.specs.Reading.{IsWhole}
use Rattle.memory_window.proofs.Areas.{each_from-is}
use Rattle.memory_window.proofs.ReadLaws.{change, home-changed, IsHome, home-is, length-part, part-change}

-- a byte that the last operation covers
last-byte : (loads : List (ℕ × List ℕ)) (before : List MemOp) (op : MemOp) (x j : ℕ) → j < op_len op → landed loads (before ++ op ∷ []) (op_at op + j) x ≡ op_byte loads op j
last-byte loads before op x j within =
    let low : nat_le (op_at op) (op_at op + j) ≡ true = grind (arith, nat_tests) in
    let high : nat_lt (op_at op + j) (op_at op + op_len op) ≡ true = grind (arith, nat_tests) in
    let place : op_at op + j - op_at op ≡ j = omega arith in
    let here : (y : ℕ) → land_byte loads op (op_at op + j) y ≡ op_byte loads op j = λ y. rw (low, high, place) refl in
    fold_push (λ (y : ℕ) (o : MemOp). land_byte loads o (op_at op + j) y) x before op ∙ here (landed loads before (op_at op + j) x)

-- bytes from an address on that each become a byte of a value, the most significant first
module _ (f : ℕ → ℕ → ℕ) (at value : ℕ) where
  abbrev Spells : ℕ → Type 0
  Spells size = (j x : ℕ) → j < size / 8 → f (at + j) x ≡ value / 2 ^ (8 * (size / 8 - 1 - j)) % 256

  abbrev Spelt : ℕ → List ℕ → Type 0
  Spelt size xs = value < 2 ^ size → length xs ≡ size / 8 → Spells size → number_of (each_from f at xs) ≡ value

  number-8 : (xs : List ℕ) → Spelt 8 xs
  number-8 (x ∷ []) small long each =
      let only : f at x ≡ value / 1 % 256 = ap (λ (a : ℕ). f a x) (sym (add-zero at)) ∙ each 0 x (omega arith) in
      let fits : value < 256 = small in
      ap (λ (b : ℕ). number_of (b ∷ [])) only ∙ omega arith
  number-8 [] small long each = absurd (omega arith)
  number-8 (x ∷ y ∷ xs) small long each = absurd (omega arith)

  number-16 : (xs : List ℕ) → Spelt 16 xs
  number-16 (x ∷ y ∷ []) small long each =
      let first : f at x ≡ value / 256 % 256 = ap (λ (a : ℕ). f a x) (sym (add-zero at)) ∙ each 0 x (omega arith) in
      let second : f (at + 1) y ≡ value / 1 % 256 = each 1 y (omega arith) in
      let fits : value < 65536 = small in
      (λ i. number_of (first i ∷ second i ∷ [])) ∙ omega arith
  number-16 [] small long each = absurd (omega arith)
  number-16 (x ∷ []) small long each = absurd (omega arith)
  number-16 (x ∷ y ∷ z ∷ xs) small long each = absurd (omega arith)

  number-32 : (xs : List ℕ) → Spelt 32 xs
  number-32 (x ∷ y ∷ z ∷ w ∷ []) small long each =
      let two : at + 1 + 1 ≡ at + 2 = omega arith in
      let three : at + 1 + 1 + 1 ≡ at + 3 = omega arith in
      let first : f at x ≡ value / 16777216 % 256 = ap (λ (a : ℕ). f a x) (sym (add-zero at)) ∙ each 0 x (omega arith) in
      let second : f (at + 1) y ≡ value / 65536 % 256 = each 1 y (omega arith) in
      let third : f (at + 1 + 1) z ≡ value / 256 % 256 = ap (λ (a : ℕ). f a z) two ∙ each 2 z (omega arith) in
      let fourth : f (at + 1 + 1 + 1) w ≡ value / 1 % 256 = ap (λ (a : ℕ). f a w) three ∙ each 3 w (omega arith) in
      let fits : value < 4294967296 = small in
      (λ i. number_of (first i ∷ second i ∷ third i ∷ fourth i ∷ [])) ∙ omega arith
  number-32 [] small long each = absurd (omega arith)
  number-32 (x ∷ []) small long each = absurd (omega arith)
  number-32 (x ∷ y ∷ []) small long each = absurd (omega arith)
  number-32 (x ∷ y ∷ z ∷ []) small long each = absurd (omega arith)
  number-32 (x ∷ y ∷ z ∷ w ∷ v ∷ xs) small long each = absurd (omega arith)

  -- spell it as a number
  spelt : (size : ℕ) (xs : List ℕ) → is_size size ≡ true → Spelt size xs
  spelt size xs sized = by_size (nat_eq size 8) (nat_eq size 16) refl refl
    where
      by_size : (a b : Bool) → nat_eq size 8 ≡ a → nat_eq size 16 ≡ b → Spelt size xs
      by_size true b is other = let same : size ≡ 8 = grind (arith, nat_tests) in subst (λ (n : ℕ). Spelt n xs) (sym same) (number-8 xs)
      by_size false true not_8 is = let same : size ≡ 16 = grind (arith, nat_tests) in subst (λ (n : ℕ). Spelt n xs) (sym same) (number-16 xs)
      by_size false false not_8 not_16 = let same : size ≡ 32 = grind (arith, nat_tests) in subst (λ (n : ℕ). Spelt n xs) (sym same) (number-32 xs)

-- a read that is admitted, and what it gives once the bytes are others
admitted-read : (size at : ℕ) (found : Option Area) (guarded : Bool) → unless_guarded (read_in size at found) guarded ≡ Ok tt
    → (r : Area) × (found ≡ Some r) × ((other : Area) → other.region ≡ r.region → read_in size at (Some other) ≡ Ok (number_of (part_of at (size / 8) other)))
admitted-read size at None guarded is = absurd (cc)
admitted-read size at (Some r) guarded is = (r, refl, by_tests (nat_eq (at % (size / 8)) 0) (allows r.region.kind size) refl refl is)
  where
    by_tests : (a b : Bool) → nat_eq (at % (size / 8)) 0 ≡ a → allows r.region.kind size ≡ b → unless_guarded (if not a then Err AccessFault.Unaligned else if not b then Err AccessFault.WrongSize else Ok (number_of (part_of at (size / 8) r))) guarded ≡ Ok tt
        → (other : Area) → other.region ≡ r.region → read_in size at (Some other) ≡ Ok (number_of (part_of at (size / 8) other))
    by_tests true true aligned allowed is other same =
        let also : allows other.region.kind size ≡ true = ap (λ (g : Region). allows g.kind size) same ∙ allowed in
        rw (aligned, also) refl
    by_tests true false aligned refused is other same = absurd (cc)
    by_tests false b refused allowed is other same = absurd (cc)

-- a range that is admitted, and what it gives once the bytes are others
admitted-range : (at len : ℕ) (found : Option Area) (guarded : Bool) → unless_guarded (bytes_in at len found) guarded ≡ Ok tt
    → (r : Area) × (found ≡ Some r) × ((other : Area) → other.region ≡ r.region → bytes_in at len (Some other) ≡ Ok (part_of at len other))
admitted-range at len None guarded is = absurd (cc)
admitted-range at len (Some r) guarded is = (r, refl, by_tests (nat_eq (at % unit_of r.region.kind) 0) (nat_eq (len % unit_of r.region.kind) 0) refl refl is)
  where
    by_tests : (a b : Bool) → nat_eq (at % unit_of r.region.kind) 0 ≡ a → nat_eq (len % unit_of r.region.kind) 0 ≡ b → unless_guarded (if not a || not b then Err AccessFault.Unaligned else Ok (part_of at len r)) guarded ≡ Ok tt
        → (other : Area) → other.region ≡ r.region → bytes_in at len (Some other) ≡ Ok (part_of at len other)
    by_tests true true first second is other same =
        let begins : nat_eq (at % unit_of other.region.kind) 0 ≡ true = ap (λ (g : Region). nat_eq (at % unit_of g.kind) 0) same ∙ first in
        let lasts : nat_eq (len % unit_of other.region.kind) 0 ≡ true = ap (λ (g : Region). nat_eq (len % unit_of g.kind) 0) same ∙ second in
        rw (begins, lasts) refl
    by_tests true false first second is other same = absurd (cc)
    by_tests false b first second is other same = absurd (cc)

pub poke-read : (loads : List (ℕ × List ℕ)) (before : List MemOp) (m : Memory) (size at value : ℕ) → IsWhole m → Admitted m (Poke size at value) → read_of size (land loads (before ++ Poke size at value ∷ []) m) at ≡ Ok value
poke-read loads before m size at value whole admitted =
    let f : ℕ → ℕ → ℕ = landed loads (before ++ Poke size at value ∷ []) in
    let found = admitted-read size at (home m.areas at (size / 8)) (is_guarded m.areas m.guarded at (size / 8)) admitted.admits in
    let here : IsHome m.areas at (size / 8) found.0 = home-is m.areas at (size / 8) found.0 found.1 in
    let long : length (part_of at (size / 8) found.0) ≡ size / 8 = length-part found.0 at (size / 8) here.spanned (here.filled whole.filled) in
    ap (read_in size at) (home-changed f m.areas at (size / 8) ∙ ap (option_map (change f)) found.1)
    ∙ found.2 (change f found.0) refl
    ∙ ap Ok (ap number_of (part-change f found.0 at (size / 8) here.spanned)
    ∙ spelt f at value size (part_of at (size / 8) found.0) admitted.can_ask.0 admitted.can_ask.1 long (λ j x lt. last-byte loads before (Poke size at value) x j lt))

-- bytes from an address on that each become a byte of others
each-written : (f : ℕ → ℕ → ℕ) (at : ℕ) (xs bytes : List ℕ) → length bytes ≡ length xs → ((k x : ℕ) → k < length xs → f (at + k) x ≡ get_or bytes k 0) → each_from f at xs ≡ bytes
each-written f at xs bytes same is = sym (each_from-is f at xs bytes same (λ k lt. sym (is k (get_or xs k 0) lt)))

-- an admitted range whose bytes are all written
range-written : (loads : List (ℕ × List ℕ)) (before : List MemOp) (op : MemOp) (m : Memory) (bytes : List ℕ) → IsWhole m → unless_guarded (bytes_of m (op_at op) (op_len op)) (is_guarded m.areas m.guarded (op_at op) (op_len op)) ≡ Ok tt
    → length bytes ≡ op_len op → ((k : ℕ) → k < op_len op → op_byte loads op k ≡ get_or bytes k 0) → bytes_of (land loads (before ++ op ∷ []) m) (op_at op) (op_len op) ≡ Ok bytes
range-written loads before op m bytes whole admitted same is =
    let f : ℕ → ℕ → ℕ = landed loads (before ++ op ∷ []) in
    let at : ℕ = op_at op in let len : ℕ = op_len op in
    let found = admitted-range at len (home m.areas at len) (is_guarded m.areas m.guarded at len) admitted in
    let here : IsHome m.areas at len found.0 = home-is m.areas at len found.0 found.1 in
    let long : length (part_of at len found.0) ≡ len = length-part found.0 at len here.spanned (here.filled whole.filled) in
    ap (bytes_in at len) (home-changed f m.areas at len ∙ ap (option_map (change f)) found.1)
    ∙ found.2 (change f found.0) refl
    ∙ ap Ok (part-change f found.0 at len here.spanned
    ∙ each-written f at (part_of at len found.0) bytes (same ∙ sym long) (λ k x lt. let within : k < len = subst (λ (n : ℕ). k < n) long lt in last-byte loads before op x k within ∙ is k within))

pub fill-read : (loads : List (ℕ × List ℕ)) (before : List MemOp) (m : Memory) (at len byte : ℕ) → IsWhole m → Admitted m (Fill at len byte) → bytes_of (land loads (before ++ Fill at len byte ∷ []) m) at len ≡ Ok (replicate len byte)
fill-read loads before m at len byte whole admitted =
    range-written loads before (Fill at len byte) m (replicate len byte) whole admitted.admits (length-replicate len byte) (λ k lt. sym (get_or-replicate len k byte 0 lt))

pub bytes-read : (loads : List (ℕ × List ℕ)) (before : List MemOp) (m : Memory) (at : ℕ) (part : List ℕ) → IsWhole m → Admitted m (Bytes at part) → bytes_of (land loads (before ++ Bytes at part ∷ []) m) at (length part) ≡ Ok part
bytes-read loads before m at part whole admitted = range-written loads before (Bytes at part) m part whole admitted.admits refl (λ k lt. refl)

pub file-read : (loads : List (ℕ × List ℕ)) (before : List MemOp) (m : Memory) (load at len : ℕ) → IsWhole m → Admitted m (FromFile load at len) → IsBacked loads (FromFile load at len)
    → bytes_of (land loads (before ++ FromFile load at len ∷ []) m) at len ≡ Ok (load_bytes loads load)
file-read loads before m load at len whole admitted backed =
    let long : length (load_bytes loads load) ≡ len = ap (λ (found : Option (ℕ × List ℕ)). length (bytes_loaded found)) backed.1 ∙ backed.2 in
    range-written loads before (FromFile load at len) m (load_bytes loads load) whole admitted.admits long (λ k lt. refl)
