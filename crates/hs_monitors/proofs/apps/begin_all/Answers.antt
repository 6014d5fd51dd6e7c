use Rattle.std.proofs.Common.{◌≡◌, ℕ, ◌∙◌, subst, arith}
use Rattle.std.proofs.lemmas.List.{length-set}
use Rattle.hs_monitors.specs.Monitors.{name_at}
use Rattle.hs_monitors.specs.Heads.{AreHeaded}
use Rattle.hs_monitors.proofs.Rests.{begun_more}
use Rattle.hs_monitors.proofs.apps.begin_all.Goals as goal

pub loop-place-init : goal.loop-place-init
loop-place-init c = record {
  long = omega arith;
  each = λ k e below is. absurd (omega arith);
  heads = c.none-heads.ensures (name_at c.args.apps.now);
}

pub loop-place-preserved : goal.loop-place-preserved
loop-place-preserved c =
    let held = c.loop-place.invariant in
    record {
      long = length-set c.loop-place.kept c.loop-place.place c.begin.result ∙ held.long;
      each = begun_more c.args.apps.now c.loop-place.kept c.loop-place.place c.begin.result (omega arith) held.each c.begin.ensures.stands;
      heads = c.begin.ensures.heads held.heads;
    }

pub returns-clause-stands : goal.returns-clause-stands
returns-clause-stands c = record { each = λ k e within is. c.loop-place.invariant.each k e (omega arith) is }

pub returns-clause-heads : goal.returns-clause-heads
returns-clause-heads c =
    let all : c.loop-place.place ≡ 32 = omega arith in
    subst (λ (n : ℕ). AreHeaded (name_at c.args.apps.now) n c.loop-place.heads) all c.loop-place.invariant.heads
