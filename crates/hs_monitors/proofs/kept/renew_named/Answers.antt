use Rattle.std.proofs.Common.{◌≡◌, ◌≢◌, ◌<◌, ◌≤◌, ◌+◌, ℕ, [], ◌∷◌, ◌++◌, Some, get_or, inl, inr, sym, ap, subst, ◌∙◌, arith}
use Rattle.std.proofs.lemmas.Bool.{cases_eq, eqb-false}
use Rattle.std.proofs.lemmas.List.{length-set}
use Rattle.hs_tables.specs.Apps.{entry_of}
use Rattle.hs_tables.specs.declared.apps.AppEntry.{AppEntry}
use Rattle.hs_monitors.specs.Monitors.{row_at}
use Rattle.hs_monitors.specs.Heads.{head_of, slot_stretch}
use Rattle.hs_monitors.specs.Entries.{EntryStands, watched_at, later}
use Rattle.hs_monitors.specs.declared.heads.Stretch.{Stretch}
use Rattle.hs_monitors.specs.declared.watches.Watched.{Watched}
use Rattle.hs_monitors.proofs.Passing.{set_more_from}
use Rattle.hs_monitors.proofs.Renewing.{far_off, noted_head, renewing_more, turned_here, renewing_next}
use Rattle.hs_monitors.proofs.kept.renew_named.Goals as goal

pub loop-place-init : goal.loop-place-init
loop-place-init c = record {
  long = omega arith;
  some = c.requires;
  renewing = λ checks n most from stood soon nth turning. (
    turning,
    (λ k e low below headed is.
        let first : c.stretch-stretch.result.from ≡ (slot_stretch c.args.heads.now c.head_of-head.result).from = ap (λ (s : Stretch). s.from) c.stretch-stretch.ensures in
        absurd (omega (arith, first, low, below))),
  );
}

pub loop-place-preserved-then-not-has : goal.loop-place-preserved-then-not-has
loop-place-preserved-then-not-has c = record {
  long = c.loop-place.invariant.long;
  some = c.loop-place.invariant.some;
  renewing = λ checks n most from stood soon nth turning.
      let heads = c.args.heads.now in
      let place = c.loop-place.place in
      let head = c.head_of-head.result in
      let held = c.loop-place.invariant.renewing checks n most from stood soon nth turning in
      let apart : get_or heads.heads place 0 ≢ head = eqb-false (get_or heads.heads place 0) head (sym c.has.ensures ∙ c.if-not-has.true) in (
        held.0,
        (λ k e low below headed is. elim (cases_eq k place) [
          | inl same ↦
              let inside : k < 32 = omega (arith, same) in
              absurd (apart (sym (ap (λ (j : ℕ). get_or heads.heads j 0) same) ∙ noted_head c.args.apps.now checks c.args.counters.now c.args.passed most heads from stood soon k e inside is ∙ headed))
          | inr other ↦
              let other_place : k ≢ place = other in
              held.1 k e low (omega (arith, other_place, below)) headed is
        ]),
      );
}

pub loop-place-preserved : goal.loop-place-preserved
loop-place-preserved c = record {
  long = length-set c.loop-place.watched c.loop-place.place c.renew-one.result ∙ c.loop-place.invariant.long;
  some = c.least_with-fewest.ensures.some;
  renewing = λ checks n most from stood soon nth turning.
      let rows = c.args.apps.now in
      let counters = c.args.counters.now in
      let heads = c.args.heads.now in
      let passed = c.args.passed in
      let place = c.loop-place.place in
      let before = c.loop-place.watched in
      let fewest = c.loop-place.fewest in
      let one = c.renew-one.result in
      let next = c.least_with-fewest.result in
      let inside : place < 32 = omega arith in
      let held = c.loop-place.invariant.renewing checks n most from stood soon nth turning in
      let far = far_off rows checks counters passed most heads from stood soon n before fewest held.0 place inside in
      let above = c.least_with-fewest.ensures.above (passed + 1) held.0.above (c.renew-one.ensures.far far) in
      let stands : (e : AppEntry) → entry_of (row_at rows place) ≡ Some e → EntryStands e checks (later passed (watched_at before place)) → EntryStands e (checks ++ counters ∷ []) (later (passed + 1) one) =
      λ e is. c.renew-one.ensures.stands checks e is far
      in
      let again : (e : AppEntry) → entry_of (row_at rows place) ≡ Some e → EntryStands e (checks ++ counters ∷ []) (later (passed + 1) (watched_at before place)) → EntryStands e (checks ++ counters ∷ []) (later (passed + 1) one) =
      λ e is. c.renew-one.ensures.again checks e is far
      in (
        renewing_more rows checks counters passed most heads from stood soon n before fewest held.0 place one next c.loop-place.invariant.long inside c.least_with-fewest.ensures.before c.least_with-fewest.ensures.here above stands again,
        (λ k e low below headed is.
            set_more_from (slot_stretch heads c.head_of-head.result).from (λ (j : ℕ) (w : Watched). entry_of (row_at rows j) ≡ Some e → EntryStands e (checks ++ counters ∷ []) (later (passed + 1) w)) before place one (omega (arith, c.loop-place.invariant.long, inside))
            (λ j from_on before_it known. held.1 j e from_on before_it headed known)
            (turned_here rows checks counters passed most heads from stood soon n before fewest held.0 place one next c.loop-place.invariant.long inside c.least_with-fewest.ensures.before c.least_with-fewest.ensures.here above stands again e)
            k low below is),
      );
}

pub returns-clause-renewing : goal.returns-clause-renewing
returns-clause-renewing c = λ checks n most from stood soon nth turning.
    let head = c.head_of-head.result in
    let heads = c.args.heads.now in
    let held = c.loop-place.invariant.renewing checks n most from stood soon nth turning in
    renewing_next c.args.apps.now checks c.args.counters.now c.args.passed most heads from stood soon n c.loop-place.watched c.loop-place.fewest held.0 c.args.counter.now nth
    (λ k e low high within headed is.
    let head_is : head_of c.args.counter.now.name ≡ head = sym c.head_of-head.ensures in
    let last : c.stretch-stretch.result.end ≡ (slot_stretch heads head).end = ap (λ (s : Stretch). s.end) c.stretch-stretch.ensures in
    let inside : k < (slot_stretch heads head).end = subst (λ (h : ℕ). k < (slot_stretch heads h).end) head_is high in
    held.1 k e (subst (λ (h : ℕ). (slot_stretch heads h).from ≤ k) head_is low) (omega (arith, last, inside, within)) (headed ∙ head_is) is)
