-- Lemmas on rehearsals whose report is told by nothing but what is answered.
use Rattle.std.proofs.Common.{◌≡◌, ℕ, List, Option, None, subst}
use Rattle.fsw_outside.specs.Told.{WhereTold}
use Rattle.subjects.specs.Plans.{Simulated}
use Rattle.rehearsal.specs.Promise.{ShelfUse, SinkUse, Promise}
use Rattle.rehearsal.specs.declared.report.Report.{Report}
use Rattle.ground_runs.specs.Rehearsing.{silent}

nothing_told : {A : Type 0} (old : Option A) (P : A → A → Type 0) → WhereTold old None P
nothing_told {A} old P after tells = let wrong : ⊥ = cc in absurd wrong

-- the promise says nothing of an error output of which nothing is told
pub hushed : {S O E : Type 0} (report : Report) (words : List (List ℕ)) (subjects : List Simulated) (shelf : ShelfUse S) (out : SinkUse O) (err : SinkUse E) → Promise report words subjects shelf out err → Promise report words subjects shelf out silent
hushed report words subjects shelf out err promise = record {
  only = promise.only;
  refused = promise.refused;
  accepted = promise.accepted;
  file_refused = promise.file_refused;
  no_memory = promise.no_memory;
  causes = promise.causes;
  told = nothing_told None _;
}

-- and the subjects are these
pub hushed_with : {S O E : Type 0} (report : Report) (words : List (List ℕ)) (subjects known : List Simulated) (shelf : ShelfUse S) (out : SinkUse O) (err : SinkUse E) → subjects ≡ known → Promise report words subjects shelf out err → Promise report words known shelf out silent
hushed_with report words subjects known shelf out err same promise = subst (λ (s : List Simulated). Promise report words s shelf out silent) same (hushed report words subjects shelf out err promise)
