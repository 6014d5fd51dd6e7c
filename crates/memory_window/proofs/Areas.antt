-- Areas cut from a block, and what changing their bytes leaves.
use Rattle.std.proofs.Common.{◌≡◌, ℕ, zero, suc, ◌+◌, ◌-◌, ◌<◌, ◌≤◌, Bool, true, false, cond, List, [], ◌∷◌, ◌++◌, length, get_or, take, drop, Some, slice_get, option_map, refl, sym, ap, ◌∙◌, arith, length-drop, length-take, add-zero, add-one}
use Rattle.std.proofs.lemmas.List.{ext_get_or, take-append-le, drop-append-le, map-append, take_all}
use Rattle.std.proofs.lemmas.Grind.{common_steps}
use Rattle.std.proofs.lemmas.List.Sums.{sum_by-cons, sum_by_more, sum_by_more_le}
use Rattle.std.proofs.lemmas.Slice.{take-put_mid, drop-put_mid}
use borrow.Rule.Slice.PartMut.{put_mid}
use Rattle.std.proofs.Math.Seq.{take-add, take-suc, drop-drop}
use Rattle.memory_window.specs.declared.regions.Region.{Region}
use Rattle.memory_window.specs.Regions.{blank, spans, total_of}
use Rattle.memory_window.specs.Memory.{Area, byte_at, byte_in, cut, changed, each_from, home, regions_of}

pub length-each_from : (f : ℕ → ℕ → ℕ) (at : ℕ) (xs : List ℕ) → length (each_from f at xs) ≡ length xs
length-each_from f at [] = refl
length-each_from f at (x ∷ xs) = ap suc (length-each_from f (at + 1) xs)

pub get_or-each_from : (f : ℕ → ℕ → ℕ) (at : ℕ) (xs : List ℕ) (k : ℕ) → k < length xs → get_or (each_from f at xs) k 0 ≡ f (at + k) (get_or xs k 0)
get_or-each_from f at [] k lt = absurd (omega arith)
get_or-each_from f at (x ∷ xs) zero lt = ap (λ a. f a x) (sym (add-zero at))
get_or-each_from f at (x ∷ xs) (suc k) lt =
    let e : at + 1 + k ≡ at + suc k = omega arith in
    get_or-each_from f (at + 1) xs k (omega arith) ∙ ap (λ a. f a (get_or xs k 0)) e

-- a list whose elements are those of the changed one is the changed one
pub each_from-is : (f : ℕ → ℕ → ℕ) (at : ℕ) (xs ys : List ℕ) → length ys ≡ length xs → ((k : ℕ) → k < length xs → get_or ys k 0 ≡ f (at + k) (get_or xs k 0)) → ys ≡ each_from f at xs
each_from-is f at xs ys same is =
    ext_get_or 0 ys (each_from f at xs) (same ∙ sym (length-each_from f at xs))
    (λ k lt. let within : k < length xs = omega arith in is k within ∙ sym (get_or-each_from f at xs k within))

pub cut-append : (rs ss : List Region) (xs ys : List ℕ) → total_of rs ≡ length xs → cut (rs ++ ss) (xs ++ ys) ≡ cut rs xs ++ cut ss ys
cut-append [] ss [] ys e = refl
cut-append [] ss (x ∷ xs) ys e = absurd (omega arith)
cut-append (r ∷ rs) ss xs ys e =
    let sum : total_of (r ∷ rs) ≡ r.len + total_of rs = sum_by-cons (λ (s : Region). s.len) r rs in
    let le : r.len ≤ length xs = omega arith in
    let rest : total_of rs ≡ length (drop r.len xs) = omega (arith, length-drop r.len xs) in
    let first : Area → List Area → List Area = λ a b. a ∷ b in
    let begins : take r.len (xs ++ ys) ≡ take r.len xs = take-append-le r.len xs ys le in
    let goes_on : cut (rs ++ ss) (drop r.len (xs ++ ys)) ≡ cut rs (drop r.len xs) ++ cut ss ys = ap (cut (rs ++ ss)) (drop-append-le r.len xs ys le) ∙ cut-append rs ss (drop r.len xs) ys rest in
    λ i. record { region = r; bytes = begins i } ∷ goes_on i

-- the areas of one region more, from the block as far as its end
pub cut-more : (rs : List Region) (r : Region) (xs : List ℕ) (from : ℕ) → from ≡ total_of rs → from + r.len ≤ length xs
    → cut (rs ++ r ∷ []) (take (from + r.len) xs) ≡ cut rs (take from xs) ++ record { region = r; bytes = take r.len (drop from xs) } ∷ []
cut-more rs r xs from e le =
    let part = take r.len (drop from xs) in
    let before : total_of rs ≡ length (take from xs) = omega (arith, length-take from xs) in
    let long : length part ≤ r.len = omega (arith, length-take r.len (drop from xs)) in
    ap (cut (rs ++ r ∷ [])) (take-add from r.len xs) ∙ cut-append rs (r ∷ []) (take from xs) part before
    ∙ ap (λ (ys : List ℕ). cut rs (take from xs) ++ record { region = r; bytes = ys } ∷ []) (take_all r.len part long)

-- one turn of landing: the region's bytes became new, and the areas as far as its end are those that landing leaves
module _ (f : ℕ → ℕ → ℕ) (regions : List Region) (i : ℕ) (old now new : List ℕ) (from : ℕ) where
  abbrev r : Region
  r = get_or regions i blank

  abbrev n : ℕ
  n = from + r.len - from

  abbrev next : List ℕ
  next = put_mid from n now new

  pub land-turn : i < length regions → total_of regions ≡ length old → length now ≡ length old
      → (from ≡ total_of (take i regions)) × (drop from now ≡ drop from old) × (cut (take i regions) (take from now) ≡ changed f (cut (take i regions) (take from old)))
      → length new ≡ length (take n (drop from now)) → ((k : ℕ) → k < length (take n (drop from now)) → get_or new k 0 ≡ f (r.start + k) (get_or (take n (drop from now)) k 0))
      → (from + r.len ≡ total_of (take (i + 1) regions)) × (drop (from + r.len) next ≡ drop (from + r.len) old) × (cut (take (i + 1) regions) (take (from + r.len) next) ≡ changed f (cut (take (i + 1) regions) (take (from + r.len) old)))
  land-turn lt whole same inv long is =
      let rs = take i regions in let part = take n (drop from now) in
      let sum : total_of (take (i + 1) regions) ≡ total_of rs + r.len = sum_by_more (λ (s : Region). s.len) regions i blank lt in
      let within : total_of rs + r.len ≤ total_of regions = sum_by_more_le (λ (s : Region). s.len) regions i blank lt in
      let n-is : n ≡ r.len = omega arith in
      let part-is : part ≡ take r.len (drop from old) = λ j. take (n-is j) (inv.1 j) in
      let count : length new ≡ n = omega (arith, length-take n (drop from now), length-drop from now) in
      let more : take (i + 1) regions ≡ rs ++ r ∷ [] = ap (λ (k : ℕ). take k regions) (add-one i) ∙ take-suc regions i blank lt in
      let front : take (from + r.len) next ≡ take from now ++ new = take-put_mid from n now new (from + r.len) (omega arith) (omega arith) in
      let before : total_of rs ≡ length (take from now) = omega (arith, length-take from now) in
      let one : List Area → List ℕ → List Area = λ areas ys. areas ++ record { region = r; bytes = ys } ∷ [] in
      let grown : new ≡ each_from f r.start part = each_from-is f r.start part new long is in
      let left : cut (take (i + 1) regions) (take (from + r.len) next) ≡ one (cut rs (take from now)) new =
      (λ j. cut (more j) (front j)) ∙ cut-append rs (r ∷ []) (take from now) new before ∙ ap (one (cut rs (take from now))) (take_all r.len new (omega arith)) in
      let right : changed f (cut (take (i + 1) regions) (take (from + r.len) old)) ≡ one (changed f (cut rs (take from old))) (each_from f r.start part) =
      ap (λ (ss : List Region). changed f (cut ss (take (from + r.len) old))) more ∙ ap (changed f) (cut-more rs r old from inv.0 (omega arith))
      ∙ map-append (λ (a : Area). record { region = a.region; bytes = each_from f a.region.start a.bytes }) (cut rs (take from old)) (record { region = r; bytes = take r.len (drop from old) } ∷ [])
      ∙ ap (λ (ys : List ℕ). one (changed f (cut rs (take from old))) (each_from f r.start ys)) (sym part-is) in
      let behind : drop (from + r.len) now ≡ drop (from + r.len) old = sym (drop-drop r.len from now) ∙ ap (drop r.len) inv.1 ∙ drop-drop r.len from old in
      (omega arith, drop-put_mid from n now new (from + r.len) (omega arith) (omega arith) count ∙ behind, left ∙ (λ j. one (inv.2 j) (grown j)) ∙ sym right)

pub regions-cut : (rs : List Region) (xs : List ℕ) → regions_of (cut rs xs) ≡ rs
regions-cut [] xs = refl
regions-cut (r ∷ rs) xs = ap (λ rest. r ∷ rest) (regions-cut rs (drop r.len xs))

pub regions-changed : (f : ℕ → ℕ → ℕ) (areas : List Area) → regions_of (changed f areas) ≡ regions_of areas
regions-changed f [] = refl
regions-changed f (a ∷ areas) = ap (λ rest. a.region ∷ rest) (regions-changed f areas)

each_from-same : (f g : ℕ → ℕ → ℕ) → ((a x : ℕ) → f a x ≡ g a x) → (at : ℕ) (xs : List ℕ) → each_from f at xs ≡ each_from g at xs
each_from-same f g same at [] = refl
each_from-same f g same at (x ∷ xs) = λ i. same at x i ∷ each_from-same f g same (at + 1) xs i

pub changed-same : (f g : ℕ → ℕ → ℕ) → ((a x : ℕ) → f a x ≡ g a x) → (areas : List Area) → changed f areas ≡ changed g areas
changed-same f g same [] = refl
changed-same f g same (a ∷ areas) = λ i. record { region = a.region; bytes = each_from-same f g same a.region.start a.bytes i } ∷ changed-same f g same areas i

get-each_from : (f : ℕ → ℕ → ℕ) (at : ℕ) (xs : List ℕ) (k : ℕ) → slice_get (each_from f at xs) k ≡ option_map (f (at + k)) (slice_get xs k)
get-each_from f at [] k = refl
get-each_from f at (x ∷ xs) zero = ap (λ (a : ℕ). Some (f a x)) (sym (add-zero at))
get-each_from f at (x ∷ xs) (suc k) =
    let e : at + 1 + k ≡ at + suc k = omega arith in
    get-each_from f (at + 1) xs k ∙ ap (λ (a : ℕ). option_map (f a) (slice_get xs k)) e

-- the byte at an address of changed areas is the changed byte
pub byte-changed : (f : ℕ → ℕ → ℕ) (areas : List Area) (a : ℕ) → byte_at (changed f areas) a ≡ option_map (f a) (byte_at areas a)
byte-changed f [] a = refl
byte-changed f (r ∷ areas) a =
    let P : Bool → Type 0 = λ b. byte_in a (cond b (Some (record { region = r.region; bytes = each_from f r.region.start r.bytes })) (home (changed f areas) a 1)) ≡ option_map (f a) (byte_in a (cond b (Some r) (home areas a 1))) in
    let go : (b : Bool) → spans a 1 r.region ≡ b → P b = λ b. elim b as (λ c. spans a 1 r.region ≡ c → P c) [
      | true ↦ λ e. let from : r.region.start + (a - r.region.start) ≡ a = grind (arith, common_steps) in
          get-each_from f r.region.start r.bytes (a - r.region.start) ∙ ap (λ (k : ℕ). option_map (f k) (slice_get r.bytes (a - r.region.start))) from
      | false ↦ λ e. byte-changed f areas a
    ] in
    go (spans a 1 r.region) refl
