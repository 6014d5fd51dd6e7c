-- What follows for the regions of a map from their having no fault.
use Rattle.std.proofs.Common.{◌≡◌, ℕ, zero, suc, ◌<◌, Bool, true, false, IsTrue, List, [], ◌∷◌, length, get_or, None, arith}
use Rattle.std.specs.List.{list_any}
use Rattle.std.proofs.lemmas.Grind.{common_steps}
use Rattle.memory_window.specs.declared.regions.Region.{Region}
use Rattle.memory_window.specs.Regions.{blank, holds, meet, has_overlap, map_fault_of, IsMap}

pub map-facts : (regions : List Region) → map_fault_of regions ≡ None → IsMap regions
unfolding map_fault_of
map-facts regions h = record {
  some_region = grind (arith, common_steps);
  few = grind (arith, common_steps);
  sized = grind (arith, common_steps);
  apart = grind (arith, common_steps);
  small = grind (arith, common_steps);
  within = grind (arith, common_steps);
  aligned = grind (arith, common_steps);
}

any-false : {X : Type 0} (p : X → Bool) (xs : List X) (d : X) (j : ℕ) → list_any p xs ≡ false → j < length xs → p (get_or xs j d) ≡ false
any-false p [] d j none lt = absurd (omega arith)
any-false p (x ∷ xs) d zero none lt = grind (arith, common_steps)
any-false p (x ∷ xs) d (suc j) none lt = any-false p xs d j (grind (arith, common_steps)) (omega arith)

-- two regions that have an address meet
both-meet : (r s : Region) (a : ℕ) → IsTrue (holds a r) → IsTrue (holds a s) → meet r s ≡ true
both-meet r s a h k = grind (arith, common_steps)

-- a region and a later one have no address in common
apart : (rs : List Region) → has_overlap rs ≡ false → (i j a : ℕ) → i < j → j < length rs → IsTrue (holds a (get_or rs i blank)) → IsTrue (holds a (get_or rs j blank)) → ⊥
apart [] none i j a lt within h k = omega arith
apart (r ∷ rs) none i zero a lt within h k = omega arith
apart (r ∷ rs) none zero (suc j) a lt within h k =
    let first : list_any (meet r) rs ≡ false = grind (arith, common_steps) in
    let yes : meet r (get_or rs j blank) ≡ true = both-meet r (get_or rs j blank) a h k in
    let no : meet r (get_or rs j blank) ≡ false = any-false (meet r) rs blank j first (omega arith) in
    cc
apart (r ∷ rs) none (suc i) (suc j) a lt within h k = apart rs (grind (arith, common_steps)) i j a (omega arith) (omega arith) h k

-- of the regions of a map at most one has an address
pub regions-apart : (rs : List Region) → map_fault_of rs ≡ None → (i j a : ℕ) → i < length rs → j < length rs → IsTrue (holds a (get_or rs i blank)) → IsTrue (holds a (get_or rs j blank)) → i ≡ j
regions-apart rs ok i j a li lj h k =
    let none = (map-facts rs ok).apart in
    let not-before : ¬ (i < j) = λ lt. apart rs none i j a lt lj h k in
    let not-behind : ¬ (j < i) = λ lt. apart rs none j i a lt li k h in
    omega arith
