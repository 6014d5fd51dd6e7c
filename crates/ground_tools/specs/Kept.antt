-- What a log tells that is kept beside its words.
use Rattle.std.specs.Prelude.{◌≡◌, ℕ, Bool, true, false, List, Option, Some, None, if◌then◌else◌}
use Rattle.fsw_outside.specs.Memory.{can_rise}
use Rattle.fsw_outside.specs.Tally.{Tally, tally_of}

-- it is told as long as the count of refusals isn't at its end
abbrev pub told_while : {A : Type 0} → ℕ → Option A → Option A
told_while refusals told = if can_rise refusals then told else None

-- where a tally is told it is that of the bytes, which are told then too
abbrev pub IsTallied : Option (List ℕ) → Option Tally → Type 0
IsTallied held tally = (t : Tally) → tally ≡ Some t → (bytes : List ℕ) × (held ≡ Some bytes) × (t ≡ tally_of bytes)

tallied_if : (told : Bool) (held : Option (List ℕ)) (tally : Option Tally) → IsTallied held tally
    → IsTallied (if told then held else None) (if told then tally else None)
tallied_if true held tally law t tells = law t tells
tallied_if false held tally law t tells = let wrong : ⊥ = cc in absurd wrong

pub tallied_while : (refusals : ℕ) (held : Option (List ℕ)) (tally : Option Tally) → IsTallied held tally
    → IsTallied (told_while refusals held) (told_while refusals tally)
tallied_while refusals held tally law = tallied_if (can_rise refusals) held tally law
