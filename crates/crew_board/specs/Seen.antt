-- How a crew is seen.
use Rattle.std.specs.Prelude.{ℕ, List}

-- The number of its jobs, its results in the jobs' order, none before the first run, and what each worker drew.
pub record Seen (S : Type 0) : Type 0 where
  pub jobs : ℕ
  pub results : List S
  pub drawn : List (List ℕ)
