-- Commands without arguments that hold for all verbs.
use Rattle.std.proofs.Common.{◌≡◌, Bool, true, false, not, ◌&&◌, refl}

-- what stands third in a chain of tests that all pass
pub third_of : (a b c d : Bool) → (a && (b && (not c && d))) ≡ true → c ≡ false
third_of a b false d is = refl
third_of true true true d is = cc
third_of true false true d is = cc
third_of false b true d is = cc
