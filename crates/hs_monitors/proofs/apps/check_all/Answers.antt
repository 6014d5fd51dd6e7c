use Rattle.std.proofs.Common.{◌≤◌, ◌<◌, ◌∙◌, ◌++◌, ◌∷◌, [], length, refl, arith}
use Rattle.std.proofs.lemmas.List.{length-set, get_or_default}
use Rattle.hs_tables.specs.Apps.{blank_row}
use Rattle.hs_actions.proofs.Series.{performs_begin, performs_front, performs_same}
use Rattle.hs_monitors.specs.Monitors.{row_at, places_of, app_attempt}
use Rattle.hs_monitors.proofs.Places.{places_few}
use Rattle.hs_monitors.proofs.Rests.{half_none, half_here, half_more, half_whole}
use Rattle.hs_monitors.proofs.Idling.{unused_attempts}
use Rattle.hs_monitors.proofs.apps.check_all.Goals as goal

pub loop-place-init : goal.loop-place-init
loop-place-init c = record {
  long = omega arith;
  few = omega arith;
  room = refl;
  counted = λ before. before;
  stand = λ checks stood. half_none c.args.tables.now.apps checks c.args.counters.now c.args.kept.now stood;
  performs = λ checks stood. performs_begin c.args.tables.now.acts c.args.now (λ k. app_attempt k (checks ++ c.args.counters.now ∷ [])) c.args.tables.now.apps c.args.actions.now c.args.out.now;
}

pub loop-place-preserved : goal.loop-place-preserved
loop-place-preserved c =
    let held = c.loop-place.invariant in
    let rows = c.args.tables.now.apps in
    let place = c.loop-place.place in
    let counters = c.args.counters.now in
    let below : place < 32 = omega arith in
    let within : place < length rows = omega arith in
    record {
      long = length-set c.loop-place.kept place c.check_place.result ∙ held.long;
      few = omega arith;
      room = c.check_place.ensures.room ∙ held.room;
      counted = λ before. c.check_place.ensures.counted (held.counted before);
      stand = λ checks stood.
          let so_far = held.stand checks stood in
          half_more rows checks counters c.loop-place.kept place c.check_place.result (omega arith)
          (λ e is. c.check_place.ensures.stands checks e is (half_here rows checks counters c.loop-place.kept place e below so_far is)) so_far;
      performs = λ checks stood.
          performs_front c.args.tables.now.acts c.args.now (λ k. app_attempt k (checks ++ counters ∷ [])) rows place (row_at rows place) c.args.actions.now c.loop-place.actions c.check_place.new.actions
          c.args.out.now c.loop-place.out c.check_place.new.out within (get_or_default rows place blank_row (row_at rows place) within) (held.performs checks stood)
          (c.check_place.ensures.performs checks (λ e is. half_here rows checks counters c.loop-place.kept place e below (held.stand checks stood) is));
    }

pub returns-clause-stands : goal.returns-clause-stands
returns-clause-stands c = λ checks places stood.
    let few = places_few c.args.tables.now.apps in
    let past : places_of c.args.tables.now.apps ≤ c.loop-place.place = omega arith in
    half_whole c.args.tables.now.apps checks c.args.counters.now c.loop-place.kept c.loop-place.place past (c.loop-place.invariant.stand checks stood)

pub returns-clause-performs : goal.returns-clause-performs
returns-clause-performs c = λ checks places stood.
    let few = places_few c.args.tables.now.apps in
    let past : places_of c.args.tables.now.apps ≤ c.loop-place.place = omega arith in
    performs_same c.args.tables.now.acts c.args.now _ _ c.args.actions.now c.loop-place.actions c.args.out.now c.loop-place.out
    (λ k. unused_attempts k (checks ++ c.args.counters.now ∷ []) c.args.tables.now.apps c.loop-place.place past) (c.loop-place.invariant.performs checks stood)
