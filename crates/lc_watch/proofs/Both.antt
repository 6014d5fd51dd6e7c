-- Tests that both hold.
use Rattle.std.proofs.Common.{◌≡◌, Bool, true, false, not, ◌&&◌, ◌||◌, refl}

pub and_yes : (t : Bool) → (t && true) ≡ t
and_yes true = refl
and_yes false = refl

pub and_no : (t : Bool) → (t && false) ≡ false
and_no true = refl
and_no false = refl

pub both_true : (a b : Bool) → (a && b) ≡ true → (a ≡ true) × (b ≡ true)
both_true true b is = (refl, is)
both_true false b is = cc

pub neither : (a b : Bool) → (a || b) ≡ false → (a ≡ false) × (b ≡ false)
neither true b is = cc
neither false b is = (refl, is)

-- what a test says that is turned round
pub off_by_not : (b : Bool) → not b ≡ true → b ≡ false
off_by_not true is = cc
off_by_not false is = refl

pub on_by_not : (b : Bool) → not b ≡ false → b ≡ true
on_by_not true is = refl
on_by_not false is = cc
