-- Lemmas on the bytes of one entry among those of all.
use Rattle.std.proofs.Common.{◌≡◌, ℕ, zero, suc, ◌+◌, ◌-◌, ◌*◌, ◌<◌, ◌≤◌, List, ◌∷◌, ◌++◌, length, take, drop, map, refl, ap, sym, ◌∙◌, arith, append_assoc, length-append}
use Rattle.std.specs.Prelude.{replicate, get_or}
use Rattle.std.specs.List.{range_with_len}
use Rattle.std.proofs.lemmas.List.{length-replicate, take_at, drop_at, take-append-le, drop-append-le, take-replicate, drop-replicate, get_or-take, get_or-drop}
use Rattle.std.proofs.Math.Seq.{drop-append-add}
use Rattle.packet_forms.specs.Numbers.{be16_at, be32_at}

-- an entry of zero bytes among others of them
gap_by : (s i d all left : ℕ) (behind : List ℕ) → all ≡ s * i + left → left ≡ s + d * s → take s (drop (s * i) (replicate all 0 ++ behind)) ≡ replicate s 0
gap_by s i d all left behind whole rest =
    let long : length {A = ℕ} (replicate all 0) ≡ all = length-replicate all 0 in
    let long_left : length {A = ℕ} (replicate left 0) ≡ left = length-replicate left 0 in
    let few : s * i ≤ length {A = ℕ} (replicate all 0) = omega (arith, whole, long) in
    let room : s ≤ length {A = ℕ} (replicate left 0) = omega (arith, rest, long_left) in
    let same : all - s * i ≡ left = omega (arith, whole) in
    let cut : drop (s * i) (replicate all 0 ++ behind) ≡ replicate left 0 ++ behind =
    drop-append-le (s * i) (replicate all 0) behind few ∙ ap (λ (xs : List ℕ). xs ++ behind) (drop-replicate (s * i) all 0 ∙ ap (λ (n : ℕ). replicate n 0) same) in
    ap (take s) cut ∙ take-append-le s (replicate left 0) behind room ∙ take-replicate s left 0 (omega (arith, rest))

pub chunk_gap : (s m i : ℕ) (behind : List ℕ) → i < m → take s (drop (s * i) (replicate (m * s) 0 ++ behind)) ≡ replicate s 0
chunk_gap s m i behind before =
    let parts : m ≡ i + 1 + (m - 1 - i) = omega (arith, before) in
    let whole : (i + 1 + (m - 1 - i)) * s ≡ s * i + (s + (m - 1 - i) * s) = omega arith in
    gap_by s i (m - 1 - i) (m * s) (s + (m - 1 - i) * s) behind (ap (λ (k : ℕ). k * s) parts ∙ whole) refl

-- the entry behind zero bytes
pub chunk_here : (s m : ℕ) (value rest : List ℕ) → length value ≡ s → take s (drop (s * m) ((replicate (m * s) 0 ++ value) ++ rest)) ≡ value
chunk_here s m value rest long =
    let turned : m * s ≡ s * m = omega arith in
    let front : length {A = ℕ} (replicate (m * s) 0) ≡ s * m = length-replicate (m * s) 0 ∙ turned in
    ap (λ (xs : List ℕ). take s (drop (s * m) xs)) (append_assoc (replicate (m * s) 0) value rest)
    ∙ ap (take s) (drop_at (replicate (m * s) 0) (value ++ rest) (s * m) front)
    ∙ take_at value rest s long

-- the entries behind that
pub chunk_behind : (s m i j : ℕ) (value rest : List ℕ) → length value ≡ s → i ≡ m + 1 + j → take s (drop (s * i) ((replicate (m * s) 0 ++ value) ++ rest)) ≡ take s (drop (s * j) rest)
chunk_behind s m i j value rest long e =
    let front : length {A = ℕ} (replicate (m * s) 0 ++ value) ≡ m * s + s = rw (length-append, length-replicate, long) refl in
    let parts : s * (m + 1 + j) ≡ (m * s + s) + s * j = omega arith in
    let same : s * i ≡ length {A = ℕ} (replicate (m * s) 0 ++ value) + s * j = ap (λ (k : ℕ). s * k) e ∙ parts ∙ ap (λ (k : ℕ). k + s * j) (sym front) in
    ap (take s) (ap (λ (k : ℕ). drop k ((replicate (m * s) 0 ++ value) ++ rest)) same ∙ drop-append-add (replicate (m * s) 0 ++ value) rest (s * j))

-- ---- numbers and names of an entry's bytes

byte_cut : (n a k j : ℕ) (p : List ℕ) → k < n → a + k ≡ j → get_or (take n (drop a p)) k 0 ≡ get_or p j 0
byte_cut n a k j p room e = get_or-take n (drop a p) k 0 room ∙ get_or-drop a p k 0 ∙ ap (λ (i : ℕ). get_or p i 0) e

pub be16_cut : (n a k j : ℕ) (p : List ℕ) → k + 1 < n → a + k ≡ j → be16_at (take n (drop a p)) k ≡ be16_at p j
unfolding be16_at
be16_cut n a k j p room e =
    rw (byte_cut n a k j p (omega (arith, room)) e, byte_cut n a (k + 1) (j + 1) p room (omega (arith, e))) refl

pub be32_cut : (n a k j : ℕ) (p : List ℕ) → k + 3 < n → a + k ≡ j → be32_at (take n (drop a p)) k ≡ be32_at p j
unfolding be32_at
be32_cut n a k j p room e =
    rw (
      byte_cut n a k j p (omega (arith, room)) e,
      byte_cut n a (k + 1) (j + 1) p (omega (arith, room)) (omega (arith, e)),
      byte_cut n a (k + 2) (j + 2) p (omega (arith, room)) (omega (arith, e)),
      byte_cut n a (k + 3) (j + 3) p room (omega (arith, e)),
    ) refl

-- numbers behind so many bytes
pub be16_behind : (k i : ℕ) (p : List ℕ) → be16_at (drop k p) i ≡ be16_at p (k + i)
unfolding be16_at
be16_behind k i p =
    let e : k + (i + 1) ≡ k + i + 1 = omega arith in
    rw (get_or-drop k p i 0, get_or-drop k p (i + 1) 0, e) refl

pub be32_behind : (k i : ℕ) (p : List ℕ) → be32_at (drop k p) i ≡ be32_at p (k + i)
unfolding be32_at
be32_behind k i p =
    let e1 : k + (i + 1) ≡ k + i + 1 = omega arith in
    let e2 : k + (i + 2) ≡ k + i + 2 = omega arith in
    let e3 : k + (i + 3) ≡ k + i + 3 = omega arith in
    rw (get_or-drop k p i 0, get_or-drop k p (i + 1) 0, get_or-drop k p (i + 2) 0, get_or-drop k p (i + 3) 0, e1, e2, e3) refl

-- ---- lists of entries

pub range_same : {A : Type 0} (f g : ℕ → A) (a b n : ℕ) → ((i : ℕ) → i < n → f (a + i) ≡ g (b + i)) → map f (range_with_len a n) ≡ map g (range_with_len b n)
range_same f g a b zero each = refl
range_same {A = A} f g a b (suc n) each =
    let za : a + 0 ≡ a = omega arith in
    let zb : b + 0 ≡ b = omega arith in
    let here : f a ≡ g b = ap f (sym za) ∙ each 0 (omega arith) ∙ ap g zb in
    let later = range_same f g (a + 1) (b + 1) n each_later in
    ap2 here later
  where
    each_later : (i : ℕ) → i < n → f (a + 1 + i) ≡ g (b + 1 + i)
    each_later i room =
        let pa : a + 1 + i ≡ a + (i + 1) = omega arith in
        let pb : b + 1 + i ≡ b + (i + 1) = omega arith in
        ap f pa ∙ each (i + 1) (omega arith) ∙ ap g (sym pb)

    ap2 : {x y : A} {xs ys : List A} → x ≡ y → xs ≡ ys → x ∷ xs ≡ y ∷ ys
    ap2 p q = cc
