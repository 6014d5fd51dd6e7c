-- Values that are lists between commas.
use Rattle.std.specs.Prelude.{ℕ, ◌==◌, Bool, true, false, List, [], ◌∷◌, ◌++◌}
use Rattle.std.specs.List.{slice_split}

-- the parts of a text between commas
abbrev pub parts : List ℕ → List (List ℕ)
parts text = slice_split (λ b. b == 44) text

-- a part, with a comma in front where another one stands before it
abbrev pub behind_comma : Bool → List ℕ → List ℕ
behind_comma true part = 44 ∷ part
behind_comma false part = part

-- parts with commas between them, and one in front where another part stands before them
unfoldable pub listed : Bool → List (List ℕ) → List ℕ
listed led [] = []
listed led (part ∷ more) = behind_comma led part ++ listed true more
