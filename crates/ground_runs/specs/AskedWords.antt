-- The words for a rehearsal, by what is asked for.
use Rattle.std.proofs.Common.{Bor}
use Rattle.std.specs.Prelude.{ℕ, Bool, true, false, List, [], ◌∷◌, ◌++◌, map, codes, Option, Some, None, if◌then◌else◌}
use Rattle.ground_files.specs.Workspaces.{is_dash}

-- the name by which a file is opened
abbrev pub opened : List ℕ → List ℕ
opened name = if is_dash name then codes "/dev/stdin" else name

abbrev pub opened_names : List (Bor (List ℕ)) → List (List ℕ)
opened_names names = map (λ (name : Bor (List ℕ)). opened name.now) names

-- how many workers there are, where that is said
abbrev pub worker_words : Option (Bor (List ℕ)) → List (List ℕ)
worker_words None = []
worker_words (Some workers) = codes "--workers" ∷ workers.now ∷ []

abbrev pub subject_words : Bool → List (List ℕ)
subject_words false = []
subject_words true = codes "--subjects" ∷ []

-- the words in front of the scenario's name
abbrev pub front_of : Option (Bor (List ℕ)) → Bool → List (List ℕ)
front_of workers has_subjects = (worker_words workers ++ subject_words has_subjects) ++ codes "--" ∷ []

-- all of them
abbrev pub words_of : Option (Bor (List ℕ)) → Bool → List ℕ → List (Bor (List ℕ)) → List (List ℕ)
words_of workers has_subjects scenario files = (front_of workers has_subjects ++ opened scenario ∷ []) ++ opened_names files
