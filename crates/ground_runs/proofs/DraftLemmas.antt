-- Lemmas on a sink over a draft.
use Rattle.std.proofs.Common.{◌≡◌, ℕ, ◌==◌, ◌&&◌, Bool, true, false, List, ◌++◌, Option, Some, None, Err, refl, ◌≤◌, ◌+◌, ◌-◌, ◌^◌, arith}
use Rattle.std.specs.Prelude.{if◌then◌else◌, min, IsSome}
use Rattle.std.specs.Io.KnownBytes.{Appends, Keeps}
use Rattle.fsw_outside.specs.Told.{WhereTold}
use Rattle.fsw_outside.specs.Causes.{HasCause}
use Rattle.ground_runs.specs.DraftSinks.{told_while_well}

-- after a fault nothing is told
untold : (are_told : Bool) (faults : ℕ) (contents : Option (List ℕ)) → (faults == 0) ≡ false → told_while_well are_told faults contents ≡ None
untold true faults contents fault = rw fault refl
untold false faults contents fault = refl

hushed_after : (are_told : Bool) (before now : ℕ) (contents : Option (List ℕ)) → now ≡ min (before + 1) (2 ^ 64 - 1) → told_while_well are_told now contents ≡ None
hushed_after are_told before now contents counted =
    let some : (now == 0) ≡ false = grind (arith, counted) in
    untold are_told now contents some

not_some : {P : Type 0} (told : Option (List ℕ)) → told ≡ None → IsSome told → P
not_some told none some = let wrong : ⊥ = cc in absurd wrong

-- a failed write is counted, and from then on nothing is told
pub counted : {T E : Type 0} (are_told : Bool) (before now : ℕ) (contents : Option (List ℕ)) (error : E) → now ≡ min (before + 1) (2 ^ 64 - 1) → before ≤ now
    → HasCause {A = List ℕ} {T = T} {E = E} (told_while_well are_told now contents) before now (Err error)
counted are_told before now contents error rises later = record {
  later = later;
  kept = tt;
  failed = record {
    risen = omega (arith, rises);
    strictly = λ some. not_some (told_while_well are_told now contents) (hushed_after are_told before now contents rises) some;
  };
}

-- a draft that took some bytes
took : (old middle new : Option (List ℕ)) (bytes after : List ℕ) → IsSome old → Appends old middle bytes → Keeps middle new → new ≡ Some after
    → (before : List ℕ) × (old ≡ Some before) × (after ≡ before ++ bytes)
took None middle new bytes after some appends keeps is = let wrong : ⊥ = cc in absurd wrong
took (Some xs) None new bytes after some appends keeps is = absurd appends
took (Some xs) (Some ys) None bytes after some appends keeps is = absurd keeps
took (Some xs) (Some ys) (Some zs) bytes after some appends keeps is = (xs, refl, cc)

grown_if : (told well : Bool) (old middle new : Option (List ℕ)) (bytes : List ℕ) → (told ≡ true → IsSome old) → Appends old middle bytes → Keeps middle new
    → WhereTold (if told && well then old else None) (if told && well then new else None) (λ before after. after ≡ before ++ bytes)
grown_if true true old middle new bytes tells appends keeps after is = took old middle new bytes after (tells refl) appends keeps is
grown_if true false old middle new bytes tells appends keeps after is = let wrong : ⊥ = cc in absurd wrong
grown_if false well old middle new bytes tells appends keeps after is = let wrong : ⊥ = cc in absurd wrong

-- the bytes that are told grow by what the draft took
pub grown : (are_told : Bool) (faults : ℕ) (old middle new : Option (List ℕ)) (bytes : List ℕ) → (are_told ≡ true → IsSome old) → Appends old middle bytes → Keeps middle new
    → WhereTold (told_while_well are_told faults old) (told_while_well are_told faults new) (λ before after. after ≡ before ++ bytes)
grown are_told faults old middle new bytes tells appends keeps = grown_if are_told (faults == 0) old middle new bytes tells appends keeps

-- a sink without a fault tells all that its draft does
pub all_told : (are_told : Bool) (faults : ℕ) (contents : Option (List ℕ)) → are_told ≡ true → faults ≡ 0 → told_while_well are_told faults contents ≡ contents
all_told are_told faults contents told well = rw (told, well) refl
