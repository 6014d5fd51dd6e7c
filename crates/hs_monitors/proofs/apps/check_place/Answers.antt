use Rattle.std.proofs.Common.{◌≡◌, ℕ, ◌+◌, ◌-◌, ◌++◌, ◌∷◌, [], sym, ap, ◌∙◌, arith, ne_eqb, ◌≢◌, ◌<◌, None, refl}
use Rattle.hs_tables.specs.Apps.{entry_of}
use Rattle.hs_actions.proofs.Series.{performs_none, performs_same}
use Rattle.hs_monitors.specs.Monitors.{row_at}
use Rattle.hs_monitors.proofs.Checks.{rested_stands, rested_acts, unchanged_stands, unchanged_acts, counter_none}
use Rattle.hs_monitors.proofs.Performing.{row_none, row_some, row_quiet, entry_cycles}
use Rattle.hs_monitors.proofs.apps.check_place.Goals as goal

pub returns-in-None-clause-performs : goal.returns-in-None-clause-performs
returns-in-None-clause-performs c = λ checks stood.
    let rows = c.args.tables.now.apps in
    let back : c.args.place + 1 - 1 ≡ c.args.place = omega arith in
    let found = c.entry.ensures.entry ∙ ap (λ (n : ℕ). entry_of (row_at rows n)) back in
    performs_none c.args.tables.now.acts c.args.now _ c.args.actions.now c.args.out.now
    (λ k. row_none (row_at rows c.args.place) c.entry.result (checks ++ c.args.counters.now ∷ []) k found c.in-None.is)

pub returns-in-Some-clause-performs : goal.returns-in-Some-clause-performs
returns-in-Some-clause-performs c = λ checks stood.
    let rows = c.args.tables.now.apps in
    let back : c.args.place + 1 - 1 ≡ c.args.place = omega arith in
    let found = c.entry.ensures.entry ∙ ap (λ (n : ℕ). entry_of (row_at rows n)) back in
    performs_same c.args.tables.now.acts c.args.now _ _ c.args.actions.now c.check_entry.new.actions c.args.out.now c.check_entry.new.out
    (λ k. row_some (row_at rows c.args.place) c.entry.result c.in-Some.entry (checks ++ c.args.counters.now ∷ []) k found c.in-Some.is)
    (c.check_entry.ensures.performs checks (stood c.in-Some.entry (sym found ∙ c.in-Some.is)))

pub returns-then-watched-eq0-clause-stands : goal.returns-then-watched-eq0-clause-stands
returns-then-watched-eq0-clause-stands c = λ checks e is stood.
    rested_stands e checks c.args.counters.now c.args.watched stood (entry_cycles (row_at c.args.tables.now.apps c.args.place) e is) c.if-watched-eq0.true

pub returns-then-watched-eq0-clause-performs : goal.returns-then-watched-eq0-clause-performs
returns-then-watched-eq0-clause-performs c = λ checks stood.
    let row = row_at c.args.tables.now.apps c.args.place in
    performs_none c.args.tables.now.acts c.args.now _ c.args.actions.now c.args.out.now
    (λ k. row_quiet row (checks ++ c.args.counters.now ∷ []) k (λ e is. rested_acts e checks c.args.counters.now c.args.watched (stood e is) (entry_cycles row e is) c.if-watched-eq0.true))

pub returns-then-watched-gt1-clause-stands : goal.returns-then-watched-gt1-clause-stands
returns-then-watched-gt1-clause-stands c = λ checks e is stood.
    let counters = c.args.counters.now in
    let watched = c.args.watched in
    let runs : 0 < watched.countdown = omega arith in
    let none = counter_none counters e.name (sym c.is_empty.ensures ∙ c.if-is_empty.true) in
    unchanged_stands e checks counters watched stood (entry_cycles (row_at c.args.tables.now.apps c.args.place) e is) runs watched.last None none refl refl (watched.countdown - 1) refl

pub returns-then-watched-gt1-clause-performs : goal.returns-then-watched-gt1-clause-performs
returns-then-watched-gt1-clause-performs c = λ checks stood.
    let counters = c.args.counters.now in
    let watched = c.args.watched in
    let row = row_at c.args.tables.now.apps c.args.place in
    let runs : 0 < watched.countdown = omega arith in
    let left : watched.countdown - 1 ≢ 0 = omega arith in
    performs_none c.args.tables.now.acts c.args.now _ c.args.actions.now c.args.out.now
    (λ k. row_quiet row (checks ++ counters ∷ []) k (λ e is.
    sym (ne_eqb (watched.countdown - 1) 0 left)
    ∙ unchanged_acts e checks counters watched (stood e is) (entry_cycles row e is) runs watched.last None (counter_none counters e.name (sym c.is_empty.ensures ∙ c.if-is_empty.true)) refl refl (watched.countdown - 1) refl))
