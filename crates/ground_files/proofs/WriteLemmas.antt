-- Outputs that are written whole.
use Rattle.std.proofs.Common.{◌≡◌, ℕ, List, [], ◌++◌, Option, Some, None, Result, Ok, Err, true, ap, ◌∙◌}
use Rattle.std.specs.Prelude.{option_map, OnOk}
use Rattle.std.specs.Io.KnownBytes.{Appends}
use Rattle.ground_files.specs.Workspaces.{Held, settled_at, put_at}

-- what stands in an output that was empty
pub all_written : (old new : Option (List ℕ)) (bytes : List ℕ) → old ≡ Some [] → Appends old new bytes → new ≡ Some bytes
all_written None new bytes is grew = cc
all_written (Some xs) None bytes is grew = absurd grew
all_written (Some xs) (Some ys) bytes is grew =
    let none : xs ≡ [] = cc in
    ap Some (grew ∙ ap (λ front. front ++ bytes) none)

-- what is held once all was written and settled
pub put_whole : {T E : Type 0} (result : Result T E) (name bytes : List ℕ) (old begun new : Option Held) (empty full : Option (List ℕ)) → begun ≡ old
    → ((before : Held) → old ≡ Some before → empty ≡ Some []) → Appends empty full bytes
    → OnOk result ((all : List ℕ) → full ≡ Some all → new ≡ option_map (settled_at name all true) begun)
    → OnOk result ((before : Held) → old ≡ Some before → new ≡ Some (put_at name bytes before))
put_whole (Ok done) name bytes old begun new empty full same is_empty grew settled = λ before told.
    settled bytes (all_written empty full bytes (is_empty before told) grew) ∙ ap (option_map (settled_at name bytes true)) (same ∙ told)
put_whole (Err error) name bytes old begun new empty full same is_empty grew settled = settled
