use Rattle.std.proofs.Common.{◌<◌, ◌+◌, ◌++◌, ℕ, List, length, set, refl, sym, ap, subst, ◌∙◌, arith, append-nil}
use Rattle.std.proofs.lemmas.List.{length-set, set-get_or}
use Rattle.commands.proofs.Heard.{no_packets}
use Rattle.lc_watch.specs.Outcomes.{OutcomesStand}
use Rattle.lc_watch.specs.declared.outcomes.Outcome.{Outcome}
use Rattle.lc_watch.specs.declared.outcomes.Outcome.TheVariants.{Unseen}
use Rattle.lc_watch.proofs.Halves.{half_none, half_more, half_whole}
use Rattle.lc_watch.proofs.Taking.{IsOutcome, HalfTaken}
use Rattle.lc_watch.proofs.outcomes.take_telemetry.Goals as goal

pub returns-then-is_empty-clause-outcomes : goal.returns-then-is_empty-clause-outcomes
returns-then-is_empty-clause-outcomes c = λ before stood.
    let none = no_packets c.args.telemetry.now (sym c.is_empty.ensures ∙ c.if-is_empty.true) in
    subst (λ (seen : List (List ℕ)). OutcomesStand c.args.rows.now seen c.args.outcomes.now) (sym (ap (λ (more : List (List ℕ)). before ++ more) none ∙ append-nil before)) stood

pub loop-place-init : goal.loop-place-init
loop-place-init c = record {
  long = c.told-outcomes;
  unchanged = λ same. refl;
  half = λ before stood. half_none (IsOutcome c.args.rows.now before) (IsOutcome c.args.rows.now (before ++ c.args.telemetry.now)) 32 Unseen c.args.outcomes.now stood.each;
}

pub loop-place-preserved-then-not-differs : goal.loop-place-preserved-then-not-differs
loop-place-preserved-then-not-differs c =
    let held = c.loop-place.invariant in
    let place = c.loop-place.place in
    let outcomes = c.loop-place.outcomes in
    let watch = c.args.rows.now in
    let within : place < length outcomes = omega (arith, held.long) in
    record {
      long = held.long;
      unchanged = held.unchanged;
      half = λ before stood.
          let half = held.half before stood in
          subst (λ (kept : List Outcome). HalfTaken watch before c.args.telemetry.now (place + 1) kept)
          (ap (set outcomes place) (c.differs.ensures c.if-not-differs.true) ∙ set-get_or outcomes place Unseen)
          (half_more (IsOutcome watch before) (IsOutcome watch (before ++ c.args.telemetry.now)) 32 Unseen outcomes place c.outcome_after-next.result within
          (c.outcome_after-next.ensures before (half.left place (omega arith) c.loop-place-test.true)) half);
    }

pub loop-place-preserved : goal.loop-place-preserved
loop-place-preserved c =
    let held = c.loop-place.invariant in
    let place = c.loop-place.place in
    let watch = c.args.rows.now in
    let within : place < length c.loop-place.outcomes = omega (arith, held.long) in
    record {
      long = length-set c.loop-place.outcomes place c.outcome_after-next.result ∙ held.long;
      unchanged = λ same. cc;
      half = λ before stood.
          let half = held.half before stood in
          half_more (IsOutcome watch before) (IsOutcome watch (before ++ c.args.telemetry.now)) 32 Unseen c.loop-place.outcomes place c.outcome_after-next.result within
          (c.outcome_after-next.ensures before (half.left place (omega arith) c.loop-place-test.true)) half;
    }

pub returns-clause-outcomes : goal.returns-clause-outcomes
returns-clause-outcomes c = λ before stood. record {
  long = c.loop-place.invariant.long;
  each = half_whole (IsOutcome c.args.rows.now before) (IsOutcome c.args.rows.now (before ++ c.args.telemetry.now)) 32 Unseen c.loop-place.outcomes c.loop-place.place c.loop-place-test.false (c.loop-place.invariant.half before stood);
}
