use Rattle.std.proofs.Common.{◌<◌, ◌∙◌, [], length, false, subst, refl, arith}
use Rattle.std.proofs.lemmas.List.{length-set}
use Rattle.lc_watch.specs.declared.actionpoints.ActRow.{ActRow}
use Rattle.lc_watch.specs.Failing.{PointStands}
use Rattle.lc_watch.specs.Firing.{starts_active}
use Rattle.lc_watch.specs.Histories.{setup_of}
use Rattle.lc_watch.proofs.Halves.{half_none, half_more, half_whole}
use Rattle.lc_watch.proofs.Serving.{IsAny, IsBegun, begun_is}
use Rattle.lc_watch.proofs.duty.begin_all.Goals as goal

pub loop-place-init : goal.loop-place-init
loop-place-init c = record {
  long = refl;
  half = half_none IsAny (IsBegun c.args.actions.now) 16 (record { active = false; failing = 0 }) _ (λ k within. tt);
}

pub loop-place-preserved : goal.loop-place-preserved
loop-place-preserved c =
    let held = c.loop-place.invariant in
    let place = c.loop-place.place in
    let within : place < length c.loop-place.points = omega (arith, held.long) in
    record {
      long = length-set c.loop-place.points place c.begun.result ∙ held.long;
      half = half_more IsAny (IsBegun c.args.actions.now) 16 (record { active = false; failing = 0 }) c.loop-place.points place c.begun.result within
          (subst (λ (row : ActRow). PointStands (starts_active row) row.failures [] [] c.begun.result) c.row.ensures.row c.begun.ensures) held.half;
    }

pub returns : goal.returns
returns c = λ watch. record {
  long = c.loop-place.invariant.long;
  each = λ k within.
      begun_is (setup_of watch c.args.actions.now) k _
      (half_whole IsAny (IsBegun c.args.actions.now) 16 (record { active = false; failing = 0 }) c.loop-place.points c.loop-place.place c.loop-place-test.false c.loop-place.invariant.half k within);
}
