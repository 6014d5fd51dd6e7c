-- Landing bank by bank.
use Rattle.std.proofs.Common.{◌≡◌, ◌⊎◌, inl, inr, ℕ, ◌+◌, ◌-◌, ◌<◌, ◌≤◌, Bool, true, false, List, [], ◌∷◌, length, get_or, take, drop, refl, sym, ap, subst, ◌∙◌, arith, length-take, length-drop, get_or-take, get_or-drop}
use Rattle.std.specs.Prelude.{nat_lt}
use Rattle.std.proofs.lemmas.Bool.Decides.{nat_tests}
use borrow.Rule.Slice.PartMut.{put_mid}
use Rattle.memory_window.specs.declared.operations.MemOp.{MemOp}
use Rattle.memory_window.specs.Memory.{Area, Memory, each_from, changed}
use Rattle.memory_window.specs.Landing.{land, landed}
use Rattle.memory_window.specs.Banks.{WriteWithin}
use Rattle.memory_window.proofs.Areas.{each_from-is}
use Rattle.memory_window.proofs.Landed.{before-mid, in-mid, behind-mid}
use Rattle.memory_window.proofs.ReadLaws.{uncovered}

-- a place lies before another one, or not
pub before-or-on : (k a : ℕ) → (k < a) ⊎ (a ≤ k)
before-or-on k a = by_test (nat_lt k a) refl
  where
    by_test : (b : Bool) → nat_lt k a ≡ b → (k < a) ⊎ (a ≤ k)
    by_test true is = inl (grind (arith, nat_tests))
    by_test false is = inr (grind (arith, nat_tests))

-- where operations write in bytes, by another name of where these begin
pub span_here : (at start : ℕ) (bytes : List ℕ) (first end : ℕ) (ops : List MemOp) → start ≡ at → WriteWithin start (start + length bytes) first end ops → WriteWithin at (at + length bytes) first end ops
span_here at start bytes first end ops same = subst (λ (n : ℕ). WriteWithin n (n + length bytes) first end ops) same

-- bytes on which operations that write only between two of their addresses land
module _ (loads : List (ℕ × List ℕ)) (ops : List MemOp) (at first end : ℕ) (old : List ℕ) (within : WriteWithin at (at + length old) first end ops) where
  pub before-landed : (k : ℕ) → k < length old → at + k < first → get_or old k 0 ≡ landed loads ops (at + k) (get_or old k 0)
  before-landed k inside lt = sym (uncovered loads ops (at + k) (get_or old k 0) (within.before (at + k) (omega arith) (omega arith) lt))

  pub behind-landed : (k : ℕ) → k < length old → end ≤ at + k → get_or old k 0 ≡ landed loads ops (at + k) (get_or old k 0)
  behind-landed k inside le = sym (uncovered loads ops (at + k) (get_or old k 0) (within.behind (at + k) (omega arith) (omega arith) le))

  -- where each of them lies before or behind, all have landed
  pub none-landed : (low : ℕ) → ((k : ℕ) → k < low → at + k < first) → ((k : ℕ) → k < length old → low ≤ k → end ≤ at + k)
      → (k : ℕ) → k < length old → get_or old k 0 ≡ landed loads ops (at + k) (get_or old k 0)
  none-landed low before behind k lt = by_place (before-or-on k low)
    where
      by_place : (k < low) ⊎ (low ≤ k) → get_or old k 0 ≡ landed loads ops (at + k) (get_or old k 0)
      by_place (inl early) = before-landed k lt (before k early)
      by_place (inr late) = behind-landed k lt (behind k lt late)

-- a list of which the part between two places became what a function of address and byte makes of it
module _ (f : ℕ → ℕ → ℕ) (at from to : ℕ) (xs part : List ℕ) (order : from ≤ to) (fits : to ≤ length xs) (same : length part ≡ length (take (to - from) (drop from xs)))
    (made : (k : ℕ) → k < length (take (to - from) (drop from xs)) → get_or part k 0 ≡ f (at + from + k) (get_or (take (to - from) (drop from xs)) k 0)) where
  count : length part ≡ to - from
  count = omega (arith, same, length-take (to - from) (drop from xs), length-drop from xs)

  within : from + (to - from) ≤ length xs
  within = omega (arith, order, fits)

  pub in-part : (k : ℕ) → from ≤ k → k < to → get_or (put_mid from (to - from) xs part) k 0 ≡ f (at + k) (get_or xs k 0)
  in-part k low high =
      let inside : k - from < length (take (to - from) (drop from xs)) = omega (arith, same, count, low, high) in
      let few : k - from < to - from = omega (arith, low, high) in
      let place : from + (k - from) ≡ k = omega (arith, low) in
      let address : at + from + (k - from) ≡ at + k = omega (arith, low) in
      in-mid from (to - from) xs part within count k low (omega (arith, order, high)) ∙ made (k - from) inside
      ∙ ap (f (at + from + (k - from))) (get_or-take (to - from) (drop from xs) (k - from) 0 few ∙ get_or-drop from xs (k - from) 0 ∙ ap (λ (i : ℕ). get_or xs i 0) place)
      ∙ ap (λ (a : ℕ). f a (get_or xs k 0)) address

  pub before-part : (k : ℕ) → k < from → get_or (put_mid from (to - from) xs part) k 0 ≡ get_or xs k 0
  before-part k lt = before-mid from (to - from) xs part within count k lt

  pub behind-part : (k : ℕ) → to ≤ k → get_or (put_mid from (to - from) xs part) k 0 ≡ get_or xs k 0
  behind-part k le = behind-mid from (to - from) xs part within count k (omega (arith, order, le))

  -- where all before the part was made already, all before its end is
  pub part-turn : (old : List ℕ) → ((k : ℕ) → k < length old → (k < from → get_or xs k 0 ≡ f (at + k) (get_or old k 0)) × (from ≤ k → get_or xs k 0 ≡ get_or old k 0))
      → (k : ℕ) → k < length old → (k < to → get_or (put_mid from (to - from) xs part) k 0 ≡ f (at + k) (get_or old k 0)) × (to ≤ k → get_or (put_mid from (to - from) xs part) k 0 ≡ get_or old k 0)
  part-turn old before k lt = (λ inside. by_place inside (before-or-on k from), λ le. behind-part k le ∙ (before k lt).1 (omega (arith, order, le)))
    where
      by_place : k < to → (k < from) ⊎ (from ≤ k) → get_or (put_mid from (to - from) xs part) k 0 ≡ f (at + k) (get_or old k 0)
      by_place inside (inl early) = before-part k early ∙ (before k lt).0 early
      by_place inside (inr late) = in-part k late inside ∙ ap (f (at + k)) ((before k lt).1 late)

  -- where all outside of the part is made by staying as it is, all is made
  pub part-alone : ((k : ℕ) → k < from → get_or xs k 0 ≡ f (at + k) (get_or xs k 0)) → ((k : ℕ) → k < length xs → to ≤ k → get_or xs k 0 ≡ f (at + k) (get_or xs k 0))
      → (k : ℕ) → k < length xs → get_or (put_mid from (to - from) xs part) k 0 ≡ f (at + k) (get_or xs k 0)
  part-alone before behind k lt = by_place (before-or-on k from) (before-or-on k to)
    where
      by_place : (k < from) ⊎ (from ≤ k) → (k < to) ⊎ (to ≤ k) → get_or (put_mid from (to - from) xs part) k 0 ≡ f (at + k) (get_or xs k 0)
      by_place (inl early) _ = before-part k early ∙ before k early
      by_place (inr late) (inl inside) = in-part k late inside
      by_place (inr late) (inr after) = behind-part k after ∙ behind k lt after

-- what no operations make of areas
changed-by-none : (loads : List (ℕ × List ℕ)) (areas : List Area) → changed (landed loads []) areas ≡ areas
changed-by-none loads [] = refl
changed-by-none loads (r ∷ rest) =
    let same : each_from (landed loads []) r.region.start r.bytes ≡ r.bytes = sym (each_from-is (landed loads []) r.region.start r.bytes r.bytes refl (λ k lt. refl)) in
    λ i. record { region = r.region; bytes = same i } ∷ changed-by-none loads rest i

-- no operations leave memory as it is
pub nothing-landed : (loads : List (ℕ × List ℕ)) (ops : List MemOp) (m : Memory) → ops ≡ [] → land loads ops m ≡ m
nothing-landed loads ops m none = ap (λ (os : List MemOp). land loads os m) none ∙ ap (λ (areas : List Area). record { areas = areas; guarded = m.guarded }) (changed-by-none loads m.areas)
