-- Lemmas on parts of bytes, and on numbers of four bytes that stand in them.
use Rattle.std.proofs.Common.{◌≡◌, ℕ, ◌+◌, ◌-◌, ◌<◌, ◌≤◌, List, [], ◌∷◌, ◌++◌, length, take, drop, refl, ap, sym, ◌∙◌, arith, length-take, length-drop}
use Rattle.std.proofs.Math.Seq.{take-append_seam, drop-append_seam, drop-append-add}
use Rattle.std.proofs.lemmas.List.{take-append-drop, drop-drop, get_or-drop}
use Rattle.std.specs.List.{AllByRecursion}
use Rattle.packet_forms.specs.Numbers.{be32_at, be32_bytes}
use Rattle.row_forms.specs.declared.field.Width.TheVariants.{U32}
use Rattle.row_forms.proofs.SpellingLemmas.{number_is}
use Rattle.row_forms.proofs.BackLemmas.{all_take, all_drop}

pub take_seam : (n : ℕ) (xs ys : List ℕ) → length xs ≡ n → take n (xs ++ ys) ≡ xs
take_seam n xs ys e = rw (← e) (take-append_seam xs ys)

pub drop_seam : (n : ℕ) (xs ys : List ℕ) → length xs ≡ n → drop n (xs ++ ys) ≡ ys
drop_seam n xs ys e = rw (← e) (drop-append_seam xs ys)

pub drop_past : (n k : ℕ) (xs ys : List ℕ) → length xs ≡ n → drop (n + k) (xs ++ ys) ≡ drop k ys
drop_past n k xs ys e = rw (← e) (drop-append-add xs ys k)

-- the first bytes behind a place, and those behind them
pub cut : (k n : ℕ) (xs : List ℕ) → take n (drop k xs) ++ drop (k + n) xs ≡ drop k xs
cut k n xs = ap (λ (ys : List ℕ). take n (drop k xs) ++ ys) (sym (drop-drop n k xs)) ∙ take-append-drop n (drop k xs)

-- ---- numbers of four bytes

pub front_number : (xs : List ℕ) → 4 ≤ length xs → be32_at (take 4 xs) 0 ≡ be32_at xs 0
unfolding be32_at
front_number [] room = absurd (omega (arith, room))
front_number (a ∷ []) room = absurd (omega (arith, room))
front_number (a ∷ b ∷ []) room = absurd (omega (arith, room))
front_number (a ∷ b ∷ c ∷ []) room = absurd (omega (arith, room))
front_number (a ∷ b ∷ c ∷ d ∷ xs) room = refl

pub drop_number : (xs : List ℕ) (k : ℕ) → be32_at (drop k xs) 0 ≡ be32_at xs k
unfolding be32_at
drop_number xs k = let z : k + 0 ≡ k = omega arith in rw (get_or-drop k xs 0 0, get_or-drop k xs 1 0, get_or-drop k xs 2 0, get_or-drop k xs 3 0, z) refl

-- the four bytes of a number that stands in bytes
pub number_there : (xs : List ℕ) (k n : ℕ) → k + 4 ≤ length xs → AllByRecursion (λ b. b < 256) xs → be32_at xs k ≡ n → take 4 (drop k xs) ≡ be32_bytes n
number_there xs k n room all e =
    let left : length (drop k xs) ≡ length xs - k = length-drop k xs in
    let long : length (take 4 (drop k xs)) ≡ 4 = simp length-take (omega (arith, room, left)) in
    let is = number_is U32 (take 4 (drop k xs)) long (all_take (λ b. b < 256) 4 (drop k xs) (all_drop (λ b. b < 256) k xs all)) in
    let same : be32_at (take 4 (drop k xs)) 0 ≡ n = front_number (drop k xs) (omega (arith, room, left)) ∙ drop_number xs k ∙ e in
    sym is.back ∙ ap be32_bytes same
