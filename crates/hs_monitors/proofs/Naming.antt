-- Names that differ where something of them does.
use Rattle.std.proofs.Common.{◌≡◌, ◌≢◌, ℕ, Bool, true, false, List, refl, ap}
use Rattle.std.specs.Prelude.{bytes_eq}
use Rattle.std.proofs.lemmas.Slice.Eq.{bytes_eq-Decides}
use Rattle.hs_monitors.specs.Acting.{is_same}

-- what is the same is so to each measure
pub others_differ : (measure : List ℕ → ℕ) (a b : List ℕ) → measure a ≢ measure b → is_same a b ≡ false
unfolding is_same
others_differ measure a b apart = by_test (bytes_eq a b) refl
  where
    by_test : (t : Bool) → bytes_eq a b ≡ t → bytes_eq a b ≡ false
    by_test true same = absurd (apart (ap measure ((bytes_eq-Decides a b).0 same)))
    by_test false other = other
