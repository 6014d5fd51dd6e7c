-- A part of a list in the place of another.
use Rattle.std.specs.Prelude.{ℕ, ◌+◌, List, ◌++◌, take, drop}

-- xs with ws in the place of the len bytes from the place `from` on
abbrev pub spliced : List ℕ → ℕ → ℕ → List ℕ → List ℕ
spliced xs from len ws = take from xs ++ (ws ++ drop (from + len) xs)
