-- What sinks over memory tell.
use Rattle.std.proofs.Common.{Bool, true, false, Some, None, refl, subst}
use Rattle.std.specs.Prelude.{if◌then◌else◌}
use Rattle.fsw_outside.specs.Told.{WhereTold}
use Rattle.fsw_outside.specs.TellingLaws.{same_content}

-- what is told of two contents, where it is told
pub told_both : {A : Type 0} (tells : Bool) (old new : A) (P : A → A → Type 0) → P old new → WhereTold (if tells then Some old else None) (if tells then Some new else None) P
told_both true old new P holds after told = (old, refl, subst (P old) (same_content new after told) holds)
told_both false old new P holds after told = let wrong : ⊥ = cc in absurd wrong
