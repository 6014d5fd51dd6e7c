-- A used entry that isn't refused has what a used entry needs.
use Rattle.std.proofs.Common.{◌≡◌, ℕ, Bool, true, false, ◌&&◌, Option, Some, None, refl}
use Rattle.std.specs.Prelude.{if◌then◌else◌, is_none, option_map, IsSome}

pub whole : {N E : Type 0} (used : Bool) (name : Option N) (rest : Option ℕ) (make : N → E) (reason : ℕ) → (if used && is_none name then Some reason else rest) ≡ None → used ≡ true → IsSome (if used then option_map make name else None)
whole true (Some name) rest make reason none is = refl
whole true None rest make reason none is = cc
whole false name rest make reason none is = cc

pub whole_name : {N : Type 0} (used : Bool) (name : Option N) (rest : Option ℕ) (reason : ℕ) → (if used && is_none name then Some reason else rest) ≡ None → used ≡ true → IsSome (if used then name else None)
whole_name true (Some name) rest reason none is = refl
whole_name true None rest reason none is = cc
whole_name false name rest reason none is = cc
