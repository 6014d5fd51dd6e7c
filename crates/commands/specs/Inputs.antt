-- What an application reads in its wakeups, and the verdicts on all that it read.
use Rattle.std.specs.Prelude.{ℕ, List}
use Rattle.histories.specs.Words.{joined_along}
use Rattle.commands.specs.Verdicts.{Protocol, verdicts_on}
use Rattle.commands.specs.declared.verdicts.Verdict.{Verdict}

-- What is read in a wakeup: the time, the packets of the pipe, and what is seen beside them.
pub record Input (A : Type 0) : Type 0 where
  pub time : ℕ
  pub commands : List (List ℕ)
  pub seen : A

-- A wakeup: what the application was set up with, the entries of its history, and what is read now.
pub record Wakeup (S X I : Type 0) : Type 0 where
  pub setup : S
  pub history : List X
  pub input : I

-- The verdicts on the packets of all entries of a history, by what refusals are decided by in each.
unfoldable pub heard_along : {X B I E : Type 0} → Protocol B I E → (List X → X → B) → (X → List (List ℕ)) → List X → List (Verdict I)
heard_along protocol basis packets entries = joined_along (λ earlier entry. verdicts_on protocol (basis earlier entry) (packets entry)) entries

-- The same where all entries are wakeups.
abbrev pub heard_of : {A B I E : Type 0} → Protocol B I E → (List (Input A) → Input A → B) → List (Input A) → List (Verdict I)
heard_of protocol basis history = heard_along protocol basis (λ input. input.commands) history
