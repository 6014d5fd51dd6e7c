-- Inputs that are opened one after another.
use Rattle.std.proofs.Common.{◌≡◌, ℕ, List, [], ◌∷◌, ◌++◌, refl}
use Rattle.ground_files.specs.Workspaces.{Held, input_taken, inputs_taken}

pub taken_append : (names : List (List ℕ)) (name : List ℕ) (held : Held) → inputs_taken (names ++ name ∷ []) held ≡ input_taken name (inputs_taken names held)
taken_append [] name held = refl
taken_append (first ∷ names) name held = taken_append names name (input_taken first held)

-- no file is another then
pub all_taken_files : (names : List (List ℕ)) (held : Held) → (inputs_taken names held).files ≡ held.files
all_taken_files [] held = refl
all_taken_files (name ∷ names) held = all_taken_files names (input_taken name held)
