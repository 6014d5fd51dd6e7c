-- One operation on one run of bytes.
use Rattle.std.proofs.Common.{◌≡◌, ◌⊎◌, inl, inr, ℕ, ◌+◌, ◌-◌, ◌<◌, ◌≤◌, Bool, true, false, min, List, length, get_or, take, drop, refl, sym, ap, ◌∙◌, arith, length-take-le, get_or-take, get_or-drop, ◌++◌}
use Rattle.std.specs.Prelude.{◌&&◌, nat_le, nat_lt}
use Rattle.std.proofs.lemmas.Bool.Decides.{nat_tests}
use Rattle.std.proofs.lemmas.List.{get_or-append_right, get_or_append_left}
use borrow.Rule.Slice.PartMut.{put_mid}
use Rattle.memory_window.specs.declared.operations.MemOp.{MemOp}
use Rattle.memory_window.specs.Operations.{op_at, op_len, op_byte}
use Rattle.memory_window.specs.Landing.{covers, land_byte}

-- a list in which the n elements from place a on are those of another, element by element
module _ (a n : ℕ) (xs ys : List ℕ) (within : a + n ≤ length xs) (long : length ys ≡ n) where
  front : length (take a xs) ≡ a
  front = length-take-le a xs (omega arith)

  pub before-mid : (k : ℕ) → k < a → get_or (put_mid a n xs ys) k 0 ≡ get_or xs k 0
  before-mid k lt = get_or_append_left (take a xs) (ys ++ drop n (drop a xs)) 0 k (omega (arith, front, lt)) ∙ get_or-take a xs k 0 lt

  pub in-mid : (k : ℕ) → a ≤ k → k < a + n → get_or (put_mid a n xs ys) k 0 ≡ get_or ys (k - a) 0
  in-mid k from lt =
      let there : k - a < length ys = omega (arith, long) in
      get_or-append_right (take a xs) (ys ++ drop n (drop a xs)) a k 0 front from ∙ get_or_append_left ys (drop n (drop a xs)) 0 (k - a) there

  pub behind-mid : (k : ℕ) → a + n ≤ k → get_or (put_mid a n xs ys) k 0 ≡ get_or xs k 0
  behind-mid k from =
      let back : a + (n + (k - a - n)) ≡ k = omega arith in
      get_or-append_right (take a xs) (ys ++ drop n (drop a xs)) a k 0 front (omega arith)
      ∙ get_or-append_right ys (drop n (drop a xs)) n (k - a) 0 long (omega arith)
      ∙ get_or-drop n (drop a xs) (k - a - n) 0 ∙ get_or-drop a xs (n + (k - a - n)) 0 ∙ ap (λ (i : ℕ). get_or xs i 0) back

-- whether an operation covers the byte in place k of a run that begins at an address
covered : (op : MemOp) (a : ℕ) → op_at op ≤ a → a < op_at op + op_len op → covers op a ≡ true
covered op a low high =
    let first : nat_le (op_at op) a ≡ true = grind (arith, nat_tests) in
    let second : nat_lt a (op_at op + op_len op) ≡ true = grind (arith, nat_tests) in
    rw (first, second) refl

both : (a b : Bool) → (a && b) ≡ true → (a ≡ true) × (b ≡ true)
both true true is = (refl, refl)
both true false is = absurd (cc)
both false b is = absurd (cc)

covers-is : (op : MemOp) (a : ℕ) → covers op a ≡ true → (op_at op ≤ a) × (a < op_at op + op_len op)
covers-is op a is =
    let tests = both (nat_le (op_at op) a) (nat_lt a (op_at op + op_len op)) is in
    let first : nat_le (op_at op) a ≡ true = tests.0 in
    let second : nat_lt a (op_at op + op_len op) ≡ true = tests.1 in
    (grind (arith, nat_tests), grind (arith, nat_tests))

-- the part of a run that an operation covers, and the bytes that were written there
module _ (loads : List (ℕ × List ℕ)) (op : MemOp) (low from to : ℕ) (old : List ℕ) (begins : from ≡ min (length old) (op_at op - low)) (ends : to ≡ min (length old) (op_at op + op_len op - low)) where
  -- it covers no other byte
  outside : (k : ℕ) → k < length old → covers op (low + k) ≡ true → (from ≤ k) × (k < to)
  outside k lt is = let inside = covers-is op (low + k) is in (omega (arith, inside.0, inside.1), omega (arith, inside.0, inside.1))

  uncovered-byte : (k : ℕ) → covers op (low + k) ≡ false → (x : ℕ) → land_byte loads op (low + k) x ≡ x
  uncovered-byte k is x = rw is refl

  -- and where that is none, nothing changes
  pub not-landed : to ≤ from → (k : ℕ) → k < length old → get_or old k 0 ≡ land_byte loads op (low + k) (get_or old k 0)
  not-landed none k lt = by_test (covers op (low + k)) refl
    where
      by_test : (b : Bool) → covers op (low + k) ≡ b → get_or old k 0 ≡ land_byte loads op (low + k) (get_or old k 0)
      by_test true is = let inside = outside k lt is in absurd (omega (arith, inside.0, inside.1))
      by_test false is = sym (uncovered-byte k is (get_or old k 0))

  -- the bytes after the operation
  pub one-landed : (ys : List ℕ) → from < to → length ys ≡ to - from → ((k : ℕ) → k < to - from → get_or ys k 0 ≡ op_byte loads op (low + from - op_at op + k))
      → (k : ℕ) → k < length old → get_or (put_mid from (to - from) old ys) k 0 ≡ land_byte loads op (low + k) (get_or old k 0)
  one-landed ys some_bytes long each k lt = by_test (covers op (low + k)) refl
    where
      within : from + (to - from) ≤ length old
      within = omega arith

      other : covers op (low + k) ≡ false → (k < from) ⊎ (to ≤ k) → get_or (put_mid from (to - from) old ys) k 0 ≡ land_byte loads op (low + k) (get_or old k 0)
      other is (inl before) = before-mid from (to - from) old ys within long k before ∙ sym (uncovered-byte k is (get_or old k 0))
      other is (inr behind) = behind-mid from (to - from) old ys within long k (omega arith) ∙ sym (uncovered-byte k is (get_or old k 0))

      in_none : covers op (low + k) ≡ false → from ≤ k → k < to → ⊥
      in_none is from_on inside =
          let yes_it : covers op (low + k) ≡ true = covered op (low + k) (omega (arith, from_on)) (omega (arith, inside)) in
          let wrong : true ≡ false = sym yes_it ∙ is in
          cc

      beside : covers op (low + k) ≡ false → (a b : Bool) → nat_lt k from ≡ a → nat_lt k to ≡ b → (k < from) ⊎ (to ≤ k)
      beside is true b first second = inl (grind (arith, nat_tests))
      beside is false false first second = inr (grind (arith, nat_tests))
      beside is false true first second = absurd (in_none is (grind (arith, nat_tests)) (grind (arith, nat_tests)))

      by_test : (b : Bool) → covers op (low + k) ≡ b → get_or (put_mid from (to - from) old ys) k 0 ≡ land_byte loads op (low + k) (get_or old k 0)
      by_test true is =
          let inside = outside k lt is in
          let place : low + from - op_at op + (k - from) ≡ low + k - op_at op = omega (arith, inside.0, inside.1) in
          in-mid from (to - from) old ys within long k inside.0 (omega (arith, inside.1)) ∙ each (k - from) (omega (arith, inside.0, inside.1)) ∙ ap (op_byte loads op) place ∙ rw is refl
      by_test false is = other is (beside is (nat_lt k from) (nat_lt k to) refl refl)
