-- The two counts at one more verdict.
use Rattle.std.proofs.Common.{◌≡◌, ℕ, ◌+◌, ◌%◌, ◌<◌, true, false, cond, List, [], ◌∷◌, ◌++◌, refl, sym, ap, ◌∙◌, arith, eq-eqb, ne_eqb, ◌≢◌}
use Rattle.std.specs.Prelude.{count_by}
use Rattle.std.specs.List.{after_last}
use Rattle.histories.proofs.Fronts.{count_more}
use Rattle.histories.proofs.Lasts.{after_last_passes, after_last_other}
use Rattle.commands.specs.Verdicts.{is_accepted, is_refused, is_reset}
use Rattle.commands.specs.Counting.{accepted_count, error_count, counts_of}
use Rattle.commands.specs.declared.verdicts.Verdict.{Verdict}
use Rattle.commands.specs.declared.verdicts.Verdict.TheVariants.{Refused, Accepted}
use Rattle.bus_pipes.specs.declared.names.Counts.{Counts}

-- no verdict yet
pub counts_none : (I : Type 0) → counts_of {I = I} [] ≡ record { accepted = 0; errors = 0 }
unfolding accepted_count error_count
counts_none I = refl

-- a count since the last reset, modulo 256
more : (count here : ℕ) → (count + here) % 256 ≡ (count % 256 + here) % 256
more count here = omega arith

module _ {I : Type 0} where
  -- after an accepted reset
  pub counts_reset : (verdicts : List (Verdict I)) (verdict : Verdict I) → is_reset verdict ≡ true → counts_of (verdicts ++ verdict ∷ []) ≡ record { accepted = 0; errors = 0 }
  unfolding accepted_count error_count
  counts_reset verdicts verdict reset = rw (after_last_passes is_reset verdicts verdict reset) refl

  -- after every other verdict
  pub counts_other : (verdicts : List (Verdict I)) (verdict : Verdict I) → is_reset verdict ≡ false
      → counts_of (verdicts ++ verdict ∷ []) ≡ record { accepted = (accepted_count verdicts + cond (is_accepted verdict) 1 0) % 256; errors = (error_count verdicts + cond (is_refused verdict) 1 0) % 256 }
  unfolding accepted_count error_count
  counts_other verdicts verdict other =
      let since = after_last is_reset verdicts in
      rw (after_last_other is_reset verdicts verdict other, count_more is_accepted since verdict, count_more is_refused since verdict, more (count_by is_accepted since) (cond (is_accepted verdict) 1 0), more (count_by is_refused since) (cond (is_refused verdict) 1 0)) refl

  -- a count is below 256
  pub few_counted : (verdicts : List (Verdict I)) → (accepted_count verdicts < 256) × (error_count verdicts < 256)
  unfolding accepted_count error_count
  few_counted verdicts = (omega arith, omega arith)

  -- the counts that are kept, at each kind of verdict
  pub note_reset : (verdicts : List (Verdict I)) (code : ℕ) (instruction : I) → code ≡ 1 → ◌≡◌ {A = Counts} (record { accepted = 0; errors = 0 }) (counts_of (verdicts ++ Accepted code instruction ∷ []))
  note_reset verdicts code instruction one = sym (counts_reset verdicts (Accepted code instruction) (eq-eqb code 1 one))

  pub note_accepted : (counts : Counts) (verdicts : List (Verdict I)) (code : ℕ) (instruction : I) → counts ≡ counts_of verdicts → code ≢ 1
      → ◌≡◌ {A = Counts} (record { accepted = (counts.accepted + 1) % 256; errors = counts.errors }) (counts_of (verdicts ++ Accepted code instruction ∷ []))
  note_accepted counts verdicts code instruction counted other =
      let few = few_counted verdicts in
      let same : (error_count verdicts + 0) % 256 ≡ error_count verdicts = omega arith in
      rw counted (sym (counts_other verdicts (Accepted code instruction) (ne_eqb code 1 other) ∙ ap (λ (n : ℕ). let all : Counts = record { accepted = (accepted_count verdicts + 1) % 256; errors = n } in all) same))

  pub note_refused : (counts : Counts) (verdicts : List (Verdict I)) (reason : ℕ) → counts ≡ counts_of verdicts
      → ◌≡◌ {A = Counts} (record { accepted = counts.accepted; errors = (counts.errors + 1) % 256 }) (counts_of (verdicts ++ Refused reason ∷ []))
  note_refused counts verdicts reason counted =
      let few = few_counted verdicts in
      let same : (accepted_count verdicts + 0) % 256 ≡ accepted_count verdicts = omega arith in
      rw counted (sym (counts_other verdicts (Refused reason) refl ∙ ap (λ (n : ℕ). let all : Counts = record { accepted = n; errors = (error_count verdicts + 1) % 256 } in all) same))

  pub note_neither : (counts : Counts) (verdicts : List (Verdict I)) (verdict : Verdict I) → counts ≡ counts_of verdicts → is_reset verdict ≡ false → is_accepted verdict ≡ false → is_refused verdict ≡ false
      → counts ≡ counts_of (verdicts ++ verdict ∷ [])
  note_neither counts verdicts verdict counted not_reset not_accepted not_refused =
      let few = few_counted verdicts in
      let same_accepted : (accepted_count verdicts + 0) % 256 ≡ accepted_count verdicts = omega arith in
      let same_errors : (error_count verdicts + 0) % 256 ≡ error_count verdicts = omega arith in
      counted ∙ sym (counts_other verdicts verdict not_reset ∙ rw (not_accepted, not_refused, same_accepted, same_errors) refl)
