use Rattle.std.proofs.Common.{◌≡◌, ◌<◌, ℕ, false, List, [], ◌∷◌, ◌++◌, Option, None, ap, ◌∙◌, sym, arith}
use Rattle.bus_pipes.specs.Held.{adding}
use Rattle.bus_pipes.proofs.Deliveries.{adding_none}
use Rattle.md_dwell.specs.Lists.{list_of, delays}
use Rattle.memory_window.specs.Window.{seen}
use Rattle.md_dwell.specs.Answers.{dwell_items}
use Rattle.md_dwell.specs.Rounds.{dwell_at, round_at}
use Rattle.md_dwell.specs.declared.tables.DwellEntry.{DwellEntry}
use Rattle.md_dwell.proofs.Courses.{runs_on, wakes_on, paused, dwell_off, dwell_still, dwell_active}
use Rattle.md_dwell.proofs.streams.Stream.serve.Goals as goal

pub returns-then-not-self-clause-items : goal.returns-then-not-self-clause-items
returns-then-not-self-clause-items c = λ entries on since images stood.
    let off : on ≡ false = sym stood.enabled ∙ c.if-not-self.true in
    sym (ap (λ (o : Option (List ℕ)). adding c.args.out.now (dwell_items c.args.now c.args.table o)) (dwell_off on entries since (images ++ seen c.args.window.now ∷ []) off) ∙ adding_none c.args.out.now)

pub returns-then-period-eq0-clause-items : goal.returns-then-period-eq0-clause-items
returns-then-period-eq0-clause-items c = λ entries on since images stood.
    let still : delays (list_of entries) ≡ 0 = rw (← stood.plan) (sym c.period.ensures ∙ c.if-period-eq0.true) in
    sym (ap (λ (o : Option (List ℕ)). adding c.args.out.now (dwell_items c.args.now c.args.table o)) (dwell_still on entries since (images ++ seen c.args.window.now ∷ []) still) ∙ adding_none c.args.out.now)

pub returns-then-self-eq0-clause-stands : goal.returns-then-self-eq0-clause-stands
returns-then-self-eq0-clause-stands c = λ entries on since images stood.
    let image = seen c.args.window.now in
    let self = c.args.self.now in
    let some_delay : 0 < delays (list_of self.plan) = rw (← c.period.ensures) (omega arith) in
    let run = runs_on entries on since images self stood c.if-not-self.false some_delay in
    let held = wakes_on since images image self 0 (sym c.if-self-eq0.true ∙ c.saturating_sub-self.ensures) run in
    record {
      plan = c.read_on.ensures.plan ∙ stood.plan;
      enabled = c.read_on.ensures.enabled ∙ stood.enabled;
      runs = λ on_now some_now. rw (← stood.plan) (c.read_on.ensures.stands since run.round images some_delay held);
    }

pub returns-then-self-eq0-clause-items : goal.returns-then-self-eq0-clause-items
returns-then-self-eq0-clause-items c = λ entries on since images stood.
    let image = seen c.args.window.now in
    let self = c.args.self.now in
    let some_delay : 0 < delays (list_of self.plan) = rw (← c.period.ensures) (omega arith) in
    let run = runs_on entries on since images self stood c.if-not-self.false some_delay in
    let held = wakes_on since images image self 0 (sym c.if-self-eq0.true ∙ c.saturating_sub-self.ensures) run in
    let active = dwell_active on entries since (images ++ image ∷ []) (sym stood.enabled ∙ c.if-not-self.false) (rw (← stood.plan) some_delay) in
    c.read_on.ensures.items since run.round images some_delay held
    ∙ ap (λ (plan : List DwellEntry). adding c.args.out.now (dwell_items c.args.now c.args.table (round_at (list_of plan) since (images ++ image ∷ [])))) stood.plan
    ∙ sym (ap (λ (o : Option (List ℕ)). adding c.args.out.now (dwell_items c.args.now c.args.table o)) active)

pub returns-else-self-eq0-clause-stands : goal.returns-else-self-eq0-clause-stands
returns-else-self-eq0-clause-stands c = λ entries on since images stood.
    let image = seen c.args.window.now in
    let self = c.args.self.now in
    let some_delay : 0 < delays (list_of self.plan) = rw (← c.period.ensures) (omega arith) in
    let run = runs_on entries on since images self stood c.if-not-self.false some_delay in
    let held = wakes_on since images image self c.saturating_sub-self.result c.saturating_sub-self.ensures run in
    let waits : 0 < c.saturating_sub-self.result = omega arith in
    let next = paused (list_of self.plan) since images image run.round self.next c.saturating_sub-self.result self.bytes some_delay held.over held.within waits held.read in
    record {
      plan = stood.plan;
      enabled = stood.enabled;
      runs = λ on_now some_now. rw (← stood.plan) (record { round = run.round; in_round = next.0; waits = waits });
    }

pub returns-else-self-eq0-clause-items : goal.returns-else-self-eq0-clause-items
returns-else-self-eq0-clause-items c = λ entries on since images stood.
    let image = seen c.args.window.now in
    let self = c.args.self.now in
    let some_delay : 0 < delays (list_of self.plan) = rw (← c.period.ensures) (omega arith) in
    let run = runs_on entries on since images self stood c.if-not-self.false some_delay in
    let held = wakes_on since images image self c.saturating_sub-self.result c.saturating_sub-self.ensures run in
    let waits : 0 < c.saturating_sub-self.result = omega arith in
    let next = paused (list_of self.plan) since images image run.round self.next c.saturating_sub-self.result self.bytes some_delay held.over held.within waits held.read in
    let active = dwell_active on entries since (images ++ image ∷ []) (sym stood.enabled ∙ c.if-not-self.false) (rw (← stood.plan) some_delay) in
    let none : dwell_at on entries since (images ++ image ∷ []) ≡ None = active ∙ sym (ap (λ (plan : List DwellEntry). round_at (list_of plan) since (images ++ image ∷ [])) stood.plan) ∙ next.1 in
    sym (ap (λ (o : Option (List ℕ)). adding c.args.out.now (dwell_items c.args.now c.args.table o)) none ∙ adding_none c.args.out.now)
