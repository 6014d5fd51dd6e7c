-- Pairs of hexadecimal digits, eight at once.
use Rattle.std.proofs.Common.{take-take, replicate, map, cond, not, nat_eq, ap₂, Fits, w8, eqb-true, ltb, ltb-true, ltb-false, min, ◌≡◌, ◌≤◌, ◌<◌, ◌+◌, ◌-◌, ◌*◌, ◌%◌, ℕ, zero, suc, Bool, true, false, ◌&&◌, if◌then◌else◌, nat_lt, nat_le, ◌==◌, List, [], ◌∷◌, ◌++◌, length, take, drop, get_or, Option, Some, None, refl, ap, sym, ◌∙◌, arith}
use Rattle.std.specs.List.{All, list_all}
use Rattle.std.proofs.lemmas.Bool.{agree_below, agree_below_at}
use Rattle.std.proofs.lemmas.List.{length-map, get_or-map, length-take-le, take_at, length-drop, take-append-drop}
use Rattle.std.proofs.Math.Seq.{drop-append_seam, take-add}
use Rattle.std.proofs.lemmas.Simd.{Each1-get_or, map-map, mask_l-mod, zip2_of_maps}
use lib.Lanes.{Each1, zip2, pick_l, sel_l, mask_l, top}
use Rattle.std.specs.Char.{is_digit, digit_value}
use Rattle.std.proofs.lemmas.Bool.Decides.{nat_tests}
use Rattle.scenario.specs.Words.{hex, before}
use Rattle.scenario.specs.DigitPairs.{holds_value, lane_value, joined_pairs}
use Rattle.scenario.proofs.WordsLemmas.{onto, onto-nil, hex_word}

pub hex_nil : hex [] ≡ Some []
unfolding hex
hex_nil = refl

before_onto : (v : ℕ) (front : List ℕ) (o : Option (List ℕ)) → before v (onto front o) ≡ onto (v ∷ front) o
before_onto v front None = refl
before_onto v front (Some bytes) = refl

pair_joined : (b : Bool) (v : ℕ) (bytes : List ℕ) (o p q : Option (List ℕ)) → ((rest : List ℕ) → o ≡ Some rest → p ≡ onto rest q)
    → (if b then before v o else None) ≡ Some bytes → (if b then before v p else None) ≡ onto bytes q
pair_joined false v bytes o p q ih e = absurd (cc)
pair_joined true v bytes None p q ih e = absurd (cc)
pair_joined true v bytes (Some rest) p q ih e =
    let same : v ∷ rest ≡ bytes = cc in
    rw (← same) (ap (before v) (ih rest refl) ∙ before_onto v rest q)

-- what is written behind digits that write bytes
pub hex_joined : (front more bytes : List ℕ) → hex front ≡ Some bytes → hex (front ++ more) ≡ onto bytes (hex more)
unfolding hex
hex_joined [] more bytes e = let same : [] ≡ bytes = cc in rw (← same) (onto-nil (hex more))
hex_joined (c ∷ []) more bytes e = absurd (cc)
hex_joined (c ∷ d ∷ front) more bytes e =
    pair_joined (is_digit c 16 && is_digit d 16) (16 * digit_value c + digit_value d) bytes (hex front) (hex (front ++ more)) (hex more) (λ rest is. hex_joined front more rest is) e

pair_none : (b : Bool) (v : ℕ) (o p : Option (List ℕ)) → (o ≡ None → p ≡ None) → (if b then before v o else None) ≡ None → (if b then before v p else None) ≡ None
pair_none false v o p ih e = refl
pair_none true v None p ih e = ap (before v) (ih refl)
pair_none true v (Some bytes) p ih e = absurd (cc)

-- nothing is written where a front of pairs writes nothing
pub hex_none_joined : (front more : List ℕ) (n : ℕ) → length front ≡ 2 * n → hex front ≡ None → hex (front ++ more) ≡ None
unfolding hex
hex_none_joined [] more n long e = absurd (cc)
hex_none_joined (c ∷ []) more n long e = absurd (omega arith)
hex_none_joined (c ∷ d ∷ front) more n long e =
    pair_none (is_digit c 16 && is_digit d 16) (16 * digit_value c + digit_value d) (hex front) (hex (front ++ more)) (λ none. hex_none_joined front more (n - 1) (omega arith) none) e

pair_front : (b : Bool) (v j : ℕ) (bytes : List ℕ) (o p : Option (List ℕ)) → ((rest : List ℕ) → o ≡ Some rest → p ≡ Some (take j rest))
    → (if b then before v o else None) ≡ Some bytes → (if b then before v p else None) ≡ Some (take (suc j) bytes)
pair_front false v j bytes o p ih e = absurd (cc)
pair_front true v j bytes None p ih e = absurd (cc)
pair_front true v j bytes (Some rest) p ih e =
    let same : v ∷ rest ≡ bytes = cc in
    rw (← same) (ap (before v) (ih rest refl))

-- the first of the pairs write the first of the bytes
pub hex_front : (word bytes : List ℕ) (n j : ℕ) → n ≡ 2 * j → hex word ≡ Some bytes → hex (take n word) ≡ Some (take j bytes)
unfolding hex
hex_front word bytes zero zero twice e = refl
hex_front word bytes zero (suc j) twice e = absurd (omega arith)
hex_front word bytes (suc zero) j twice e = absurd (omega arith)
hex_front word bytes (suc (suc n)) zero twice e = absurd (omega arith)
hex_front [] bytes (suc (suc n)) (suc j) twice e = let same : [] ≡ bytes = cc in rw (← same) refl
hex_front (c ∷ []) bytes (suc (suc n)) (suc j) twice e = absurd (cc)
hex_front (c ∷ d ∷ word) bytes (suc (suc n)) (suc j) twice e =
    pair_front (is_digit c 16 && is_digit d 16) (16 * digit_value c + digit_value d) j bytes (hex word) (hex (take n word)) (λ rest is. hex_front word rest n j (omega arith) is) e

-- an odd number of digits writes nothing
pub hex_odd_none : (word : List ℕ) → length word % 2 ≡ 1 → hex word ≡ None
hex_odd_none word odd = of_bytes (hex word) refl where
  of_bytes : (o : Option (List ℕ)) → hex word ≡ o → o ≡ None
  of_bytes None e = refl
  of_bytes (Some bytes) e = absurd (omega (arith, (hex_word word bytes e).1))

digit_by_value : (t : Bool) (d v : ℕ) → nat_lt d 16 ≡ t → (if t then v == d else nat_le 16 v) ≡ true → (t ≡ nat_lt v 16) × (nat_lt v 16 ≡ true → v ≡ d)
digit_by_value true d v digit holds = let same : v ≡ d = grind (arith, nat_tests) in (rw same (sym digit), λ _. same)
digit_by_value false d v digit holds =
    let large : nat_lt v 16 ≡ false = grind (arith, nat_tests) in
    (sym large, λ small. absurd (cc))

pair_by_values : (p q r s a : Bool) (x y h l : ℕ) (bytes : List ℕ) (o : Option (List ℕ)) → (p ≡ r) × (r ≡ true → h ≡ x) → (q ≡ s) × (s ≡ true → l ≡ y) → o ≡ (if a then Some bytes else None)
    → (if p && q then before (16 * x + y) o else None) ≡ (if r && (s && a) then Some ((16 * h + l) ∷ bytes) else None)
pair_by_values p q true true true x y h l bytes o first second more =
    let high : h ≡ x = first.1 refl in
    let low : l ≡ y = second.1 refl in
    rw (first.0, second.0, high, low, more) refl
pair_by_values p q true true false x y h l bytes o first second more = rw (first.0, second.0, more) refl
pair_by_values p q true false a x y h l bytes o first second more = rw (first.0, second.0) refl
pair_by_values p q false s a x y h l bytes o first second more = rw first.0 refl

-- what digits with these values write, or none where one is no digit's value
pub hex_by_values : (word values : List ℕ) (n : ℕ) → length word ≡ 2 * n → length values ≡ length word
    → ((k : ℕ) → k < length word → holds_value (get_or word k 0) (get_or values k 0) ≡ true)
    → hex word ≡ (if list_all (λ v. nat_lt v 16) values then Some (joined_pairs values) else None)
unfolding hex
hex_by_values [] [] n long same holds = refl
hex_by_values [] (v ∷ values) n long same holds = absurd (omega arith)
hex_by_values (c ∷ []) values n long same holds = absurd (omega arith)
hex_by_values (c ∷ d ∷ word) [] n long same holds = absurd (omega arith)
hex_by_values (c ∷ d ∷ word) (h ∷ []) n long same holds = absurd (omega arith)
hex_by_values (c ∷ d ∷ word) (h ∷ l ∷ values) n long same holds =
    pair_by_values (is_digit c 16) (is_digit d 16) (nat_lt h 16) (nat_lt l 16) (list_all (λ v. nat_lt v 16) values) (digit_value c) (digit_value d) h l (joined_pairs values) (hex word)
    (digit_by_value (is_digit c 16) (digit_value c) h refl (holds 0 (omega arith)))
    (digit_by_value (is_digit d 16) (digit_value d) l refl (holds 1 (omega arith)))
    (hex_by_values word values (n - 1) (omega arith) (omega arith) (λ k within. holds (suc (suc k)) (omega arith)))

byte_is : (high low : ℕ) → high < 16 → low < 16 → (high * 16 % 256 + low) % 256 ≡ 16 * high + low
byte_is high low a b = omega arith

-- sixteen values in pairs, as vectors join them
pub bytes_are : (values : List ℕ) → length values ≡ 16 → All (λ v. v < 16) values
    → zip2 (λ a b. (a + b) % 256) (zip2 (λ a b. a * b % 256) (pick_l 0 (values ++ values) (0 ∷ 2 ∷ 4 ∷ 6 ∷ 8 ∷ 10 ∷ 12 ∷ 14 ∷ [])) (replicate 8 16)) (pick_l 0 (values ++ values) (1 ∷ 3 ∷ 5 ∷ 7 ∷ 9 ∷ 11 ∷ 13 ∷ 15 ∷ [])) ≡ joined_pairs values
bytes_are (v0 ∷ v1 ∷ v2 ∷ v3 ∷ v4 ∷ v5 ∷ v6 ∷ v7 ∷ v8 ∷ v9 ∷ v10 ∷ v11 ∷ v12 ∷ v13 ∷ v14 ∷ v15 ∷ []) long small =
    rw (byte_is v0 v1 (small 0 0 (omega arith)) (small 1 0 (omega arith)), byte_is v2 v3 (small 2 0 (omega arith)) (small 3 0 (omega arith)), byte_is v4 v5 (small 4 0 (omega arith)) (small 5 0 (omega arith)), byte_is v6 v7 (small 6 0 (omega arith)) (small 7 0 (omega arith)), byte_is v8 v9 (small 8 0 (omega arith)) (small 9 0 (omega arith)), byte_is v10 v11 (small 10 0 (omega arith)) (small 11 0 (omega arith)), byte_is v12 v13 (small 12 0 (omega arith)) (small 13 0 (omega arith)), byte_is v14 v15 (small 14 0 (omega arith)) (small 15 0 (omega arith))) refl
bytes_are [] long small = absurd (omega arith)
bytes_are (v0 ∷ []) long small = absurd (omega arith)
bytes_are (v0 ∷ v1 ∷ []) long small = absurd (omega arith)
bytes_are (v0 ∷ v1 ∷ v2 ∷ []) long small = absurd (omega arith)
bytes_are (v0 ∷ v1 ∷ v2 ∷ v3 ∷ []) long small = absurd (omega arith)
bytes_are (v0 ∷ v1 ∷ v2 ∷ v3 ∷ v4 ∷ []) long small = absurd (omega arith)
bytes_are (v0 ∷ v1 ∷ v2 ∷ v3 ∷ v4 ∷ v5 ∷ []) long small = absurd (omega arith)
bytes_are (v0 ∷ v1 ∷ v2 ∷ v3 ∷ v4 ∷ v5 ∷ v6 ∷ []) long small = absurd (omega arith)
bytes_are (v0 ∷ v1 ∷ v2 ∷ v3 ∷ v4 ∷ v5 ∷ v6 ∷ v7 ∷ []) long small = absurd (omega arith)
bytes_are (v0 ∷ v1 ∷ v2 ∷ v3 ∷ v4 ∷ v5 ∷ v6 ∷ v7 ∷ v8 ∷ []) long small = absurd (omega arith)
bytes_are (v0 ∷ v1 ∷ v2 ∷ v3 ∷ v4 ∷ v5 ∷ v6 ∷ v7 ∷ v8 ∷ v9 ∷ []) long small = absurd (omega arith)
bytes_are (v0 ∷ v1 ∷ v2 ∷ v3 ∷ v4 ∷ v5 ∷ v6 ∷ v7 ∷ v8 ∷ v9 ∷ v10 ∷ []) long small = absurd (omega arith)
bytes_are (v0 ∷ v1 ∷ v2 ∷ v3 ∷ v4 ∷ v5 ∷ v6 ∷ v7 ∷ v8 ∷ v9 ∷ v10 ∷ v11 ∷ []) long small = absurd (omega arith)
bytes_are (v0 ∷ v1 ∷ v2 ∷ v3 ∷ v4 ∷ v5 ∷ v6 ∷ v7 ∷ v8 ∷ v9 ∷ v10 ∷ v11 ∷ v12 ∷ []) long small = absurd (omega arith)
bytes_are (v0 ∷ v1 ∷ v2 ∷ v3 ∷ v4 ∷ v5 ∷ v6 ∷ v7 ∷ v8 ∷ v9 ∷ v10 ∷ v11 ∷ v12 ∷ v13 ∷ []) long small = absurd (omega arith)
bytes_are (v0 ∷ v1 ∷ v2 ∷ v3 ∷ v4 ∷ v5 ∷ v6 ∷ v7 ∷ v8 ∷ v9 ∷ v10 ∷ v11 ∷ v12 ∷ v13 ∷ v14 ∷ []) long small = absurd (omega arith)
bytes_are (v0 ∷ v1 ∷ v2 ∷ v3 ∷ v4 ∷ v5 ∷ v6 ∷ v7 ∷ v8 ∷ v9 ∷ v10 ∷ v11 ∷ v12 ∷ v13 ∷ v14 ∷ v15 ∷ more ∷ rest) long small = absurd (omega arith)

-- vectors that are computed lane by lane from v
pub joined : (h : ℕ → ℕ → ℕ) (f g : ℕ → ℕ) (v : List ℕ) {a b : List ℕ} → a ≡ map f v → b ≡ map g v → zip2 h a b ≡ map (λ x. h (f x) (g x)) v
joined h f g v p q = zip2_of_maps h f g v p q

abbrev below_mask : ℕ → ℕ → ℕ
below_mask a b = cond (ltb a b) 255 0

one_less : (a b : ℕ) → a < 256 → b < 256 → (cond (top 7 (below_mask a b)) b a + (256 - b)) % 256 ≡ a - b
one_less a b A B = go (ltb a b) refl
  where
    go : (t : Bool) → ltb a b ≡ t → (cond (top 7 (cond t 255 0)) b a + (256 - b)) % 256 ≡ a - b
    go true e = omega (arith, ltb-true _ _ e)
    go false e = omega (arith, ltb-false _ _ e)

-- a difference that saturates: the larger of the two, less the second
pub less_is : (xs ys : List ℕ) → Each1 (Fits w8) xs → Each1 (Fits w8) ys → zip2 (λ a b. (a + (256 - b)) % 256) (sel_l (map (top 7) (zip2 below_mask xs ys)) ys xs) ys ≡ zip2 (λ a b. a - b) xs ys
less_is [] ys p q = refl
less_is (x ∷ xs) [] p q = refl
less_is (x ∷ xs) (y ∷ ys) p q = ap₂ (λ (n : ℕ) (ns : List ℕ). n ∷ ns) (one_less x y p.0.fits q.0.fits) (less_is xs ys p.1 q.1)

one_capped : (a b : ℕ) → a < 256 → b < 256 → (a + cond (top 7 (below_mask b (255 - a))) b (255 - a)) % 256 ≡ min (a + b) 255
one_capped a b A B = go (ltb b (255 - a)) refl
  where
    go : (t : Bool) → ltb b (255 - a) ≡ t → (a + cond (top 7 (cond t 255 0)) b (255 - a)) % 256 ≡ min (a + b) 255
    go true e = omega (arith, ltb-true _ _ e)
    go false e = omega (arith, ltb-false _ _ e)

-- a sum that saturates: with the second or what the first lacks, whichever is less
pub capped_is : (xs ys : List ℕ) → Each1 (Fits w8) xs → Each1 (Fits w8) ys
    → zip2 (λ a b. (a + b) % 256) xs (sel_l (map (top 7) (zip2 below_mask ys (map (λ a. 255 - a) xs))) ys (map (λ a. 255 - a) xs)) ≡ zip2 (λ a b. min (a + b) 255) xs ys
capped_is [] ys p q = refl
capped_is (x ∷ xs) [] p q = refl
capped_is (x ∷ xs) (y ∷ ys) p q = ap₂ (λ (n : ℕ) (ns : List ℕ). n ∷ ns) (one_capped x y p.0.fits q.0.fits) (capped_is xs ys p.1 q.1)

one_smaller : (a b : ℕ) → cond (top 7 (below_mask a b)) a b ≡ min a b
one_smaller a b = go (ltb a b) refl
  where
    go : (t : Bool) → ltb a b ≡ t → cond (top 7 (cond t 255 0)) a b ≡ min a b
    go true e = omega (arith, ltb-true _ _ e)
    go false e = omega (arith, ltb-false _ _ e)

pub smaller_is : (xs ys : List ℕ) → sel_l (map (top 7) (zip2 below_mask xs ys)) xs ys ≡ zip2 min xs ys
smaller_is [] ys = refl
smaller_is (x ∷ xs) [] = refl
smaller_is (x ∷ xs) (y ∷ ys) = ap₂ (λ (n : ℕ) (ns : List ℕ). n ∷ ns) (one_smaller x y) (smaller_is xs ys)

maps_agree : (f g : ℕ → ℕ) (v : List ℕ) → agree_below (λ b. nat_eq (f b) (g b)) (λ _. true) 256 ≡ true → Each1 (Fits w8) v → map f v ≡ map g v
maps_agree f g [] all fits = refl
maps_agree f g (x ∷ v) all fits =
    ap₂ (λ (y : ℕ) (ys : List ℕ). y ∷ ys) (eqb-true (f x) (g x) (agree_below_at (λ b. nat_eq (f b) (g b)) (λ _. true) 256 x all fits.0.fits)) (maps_agree f g v all fits.1)

-- what is computed lane by lane, by another function that gives the same for each byte
pub lanes_are : (f g : ℕ → ℕ) (v : List ℕ) {z : List ℕ} → z ≡ map f v → agree_below (λ b. nat_eq (f b) (g b)) (λ _. true) 256 ≡ true → Each1 (Fits w8) v → z ≡ map g v
lanes_are f g v are all fits = are ∙ maps_agree f g v all fits

lane_holds : agree_below (λ b. holds_value b (lane_value b)) (λ _. true) 256 ≡ true
lane_holds = refl

-- what sixteen digits write
pub hex_by_lanes : (word values : List ℕ) → length word ≡ 16 → Each1 (Fits w8) word → values ≡ map lane_value word
    → hex word ≡ (if list_all (λ v. nat_lt v 16) values then Some (joined_pairs values) else None)
hex_by_lanes word values long fits are =
    hex_by_values word values 8 long (ap length are ∙ length-map word lane_value)
    (λ k within.
    ap (λ (xs : List ℕ). holds_value (get_or word k 0) (get_or xs k 0)) are
    ∙ ap (holds_value (get_or word k 0)) (get_or-map lane_value word k 0 0 within)
    ∙ agree_below_at (λ b. holds_value b (lane_value b)) (λ _. true) 256 (get_or word k 0) lane_holds (Each1-get_or (Fits w8) word k 0 within fits).fits)

one_set : (t : Bool) (n : ℕ) → nat_eq (cond t 1 0 + 2 * n) 0 ≡ (not t && nat_eq n 0)
one_set true n = grind (arith, nat_tests)
one_set false n = grind (arith, nat_tests)

none_set : (p : ℕ → Bool) (v : List ℕ) → nat_eq (mask_l (map p v)) 0 ≡ list_all (λ x. not (p x)) v
none_set p [] = refl
none_set p (x ∷ v) = one_set (p x) (mask_l (map p v)) ∙ ap (λ (rest : Bool). not (p x) && rest) (none_set p v)

same_test : (p q : ℕ → Bool) (v : List ℕ) → agree_below p q 256 ≡ true → Each1 (Fits w8) v → list_all p v ≡ list_all q v
same_test p q [] all fits = refl
same_test p q (x ∷ v) all fits = ap₂ (λ (a b : Bool). a && b) (agree_below_at p q 256 x all fits.0.fits) (same_test p q v all fits.1)

-- no bit of a mask is set where all bytes pass a test
pub lanes_pass : (q : ℕ → Bool) (f : ℕ → ℕ) (v : List ℕ) {z : List ℕ} → z ≡ map f v → agree_below (λ b. not (top 7 (f b))) q 256 ≡ true → length v ≡ 16 → Each1 (Fits w8) v
    → nat_eq (mask_l (map (top 7) z) % 18446744073709551616) 0 ≡ list_all q v
lanes_pass q f v are all long fits =
    let test : ℕ → Bool = λ x. top 7 (f x) in
    ap (λ (xs : List ℕ). nat_eq (mask_l (map (top 7) xs) % 18446744073709551616) 0) are
    ∙ ap (λ (ts : List Bool). nat_eq (mask_l ts % 18446744073709551616) 0) (map-map (top 7) f v)
    ∙ ap (λ (n : ℕ). nat_eq n 0) (mask_l-mod (map test v) 64 (omega (arith, length-map v test, long)))
    ∙ none_set test v
    ∙ same_test (λ x. not (test x)) q v all fits

take_front : (xs ys : List ℕ) (n : ℕ) → length xs ≡ n → take n (xs ++ ys) ≡ xs
take_front xs ys n long = take_at xs ys n long

drop_front : (xs ys : List ℕ) (n : ℕ) → length xs ≡ n → drop n (xs ++ ys) ≡ ys
drop_front xs ys n long = ap (λ (k : ℕ). drop k (xs ++ ys)) (sym long) ∙ drop-append_seam xs ys

-- what stands before and at the place that was written
pub front_placed : (at : ℕ) (places now bytes rest : List ℕ) → at ≤ length places → now ≡ take at places ++ (bytes ++ rest) → take at now ≡ take at places
front_placed at places now bytes rest within is = ap (take at) is ∙ take_front (take at places) (bytes ++ rest) at (length-take-le at places within)

pub middle_placed : (at : ℕ) (places now bytes rest : List ℕ) → at ≤ length places → length bytes ≡ 8 → now ≡ take at places ++ (bytes ++ rest) → take 8 (drop at now) ≡ bytes
middle_placed at places now bytes rest within long is =
    ap (λ (xs : List ℕ). take 8 (drop at xs)) is
    ∙ ap (take 8) (drop_front (take at places) (bytes ++ rest) at (length-take-le at places within))
    ∙ take_front bytes rest 8 long

-- the next eight pairs, whose bytes stand behind those of the pairs before them
pub parts_joined : (word places now : List ℕ) (m : ℕ) → hex (take (2 * m) word) ≡ Some (take m places) → hex (take 16 (drop (2 * m) word)) ≡ Some (take 8 (drop m now)) → take m now ≡ take m places
    → hex (take (2 * m + 16) word) ≡ Some (take (m + 8) now)
parts_joined word places now m first second kept =
    ap hex (take-add (2 * m) 16 word)
    ∙ hex_joined (take (2 * m) word) (take 16 (drop (2 * m) word)) (take m places) first
    ∙ ap (onto (take m places)) second
    ∙ ap Some (ap (λ (xs : List ℕ). xs ++ take 8 (drop m now)) (sym kept) ∙ sym (take-add m 8 now))

-- the next eight pairs, of which one is none
pub parts_none : (word bytes : List ℕ) (m : ℕ) → 2 * m + 16 ≤ length word → hex (take (2 * m) word) ≡ Some bytes → hex (take 16 (drop (2 * m) word)) ≡ None → hex word ≡ None
parts_none word bytes m within first second =
    let rest = drop (2 * m) word in
    let long : length (take 16 rest) ≡ 2 * 8 = length-take-le 16 rest (omega (arith, length-drop (2 * m) word, within)) in
    ap hex (sym (take-append-drop (2 * m) word))
    ∙ hex_joined (take (2 * m) word) rest bytes first
    ∙ ap (onto bytes) (ap hex (sym (take-append-drop 16 rest)) ∙ hex_none_joined (take 16 rest) (drop 16 rest) 8 long second)

-- the first pairs of those that are read
pub parts_front : (word places : List ℕ) (m n : ℕ) → m ≤ n → hex (take (2 * n) word) ≡ Some (take n places) → hex (take (2 * m) word) ≡ Some (take m places)
parts_front word places m n fewer read =
    let shorter : 2 * m ≤ 2 * n = omega (arith, fewer) in
    ap hex (sym (take-take (2 * m) (2 * n) word shorter))
    ∙ hex_front (take (2 * n) word) (take n places) (2 * m) m refl read
    ∙ ap Some (take-take m n places fewer)
