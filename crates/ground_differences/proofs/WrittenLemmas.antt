-- Lemmas on what is written behind what was there.
use Rattle.std.proofs.Common.{◌≡◌, ℕ, List, [], ◌++◌, Option, Some, None, Result, Ok, Err, refl, subst}
use Rattle.std.specs.Prelude.{OnOk}
use Rattle.std.specs.Io.KnownBytes.{Appends}
use Rattle.std.proofs.KnownBytes.{Appends-nil, Appends-trans}
use Rattle.ground_differences.specs.Written.{IsWrittenOn}

-- nothing was written
pub written_none : (out : Option (List ℕ)) → IsWrittenOn out out
written_none out = record { bytes = []; written = Appends-nil out }

-- more was written
pub written_more : (first second third : Option (List ℕ)) → IsWrittenOn first second → IsWrittenOn second third → IsWrittenOn first third
written_more first second third h k = record { bytes = h.bytes ++ k.bytes; written = Appends-trans first second third h.bytes k.bytes h.written k.written }

-- bytes were written
pub written_once : {E T : Type 0} (result : Result T E) (before after : Option (List ℕ)) (bytes : List ℕ) → OnOk result (Appends before after bytes)
    → OnOk result (IsWrittenOn before after)
written_once (Ok done) before after bytes h = record { bytes = bytes; written = h }
written_once (Err error) before after bytes h = tt

-- more was written, where that went well
pub written_then : {E T : Type 0} (result : Result T E) (first second third : Option (List ℕ)) → IsWrittenOn first second
    → OnOk result (IsWrittenOn second third) → OnOk result (IsWrittenOn first third)
written_then (Ok done) first second third h k = written_more first second third h k
written_then (Err error) first second third h k = tt

known : (after : Option (List ℕ)) (bytes : List ℕ) → Appends (Some []) after bytes → (made : List ℕ) × (after ≡ Some made)
known None bytes h = absurd h
known (Some made) bytes h = (made, refl)

-- what was written behind nothing is known
pub written_known : (before after : Option (List ℕ)) → before ≡ Some [] → IsWrittenOn before after → (made : List ℕ) × (after ≡ Some made)
written_known before after none h = known after h.bytes (subst (λ (o : Option (List ℕ)). Appends o after h.bytes) none h.written)
