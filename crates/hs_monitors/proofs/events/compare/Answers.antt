use Rattle.std.proofs.Common.{◌≡◌, ℕ, ◌+◌, ◌-◌, ap, ◌∙◌, arith}
use Rattle.hs_tables.specs.Events.{entry_of}
use Rattle.hs_actions.specs.declared.action.Source.TheVariants.{EventMonitor}
use Rattle.hs_actions.proofs.Series.{performs_none, performs_one, performs_same}
use Rattle.hs_monitors.specs.Events.{row_at}
use Rattle.hs_monitors.proofs.Performing.{event_none, event_other, event_matched, event_long}
use Rattle.hs_monitors.proofs.events.compare.Goals as goal

pub is_matched-requires : goal.is_matched-requires
is_matched-requires c = event_long c.args.packet.now c.requires.message

pub returns-in_default-clause-performs : goal.returns-in_default-clause-performs
returns-in_default-clause-performs c =
    let rows = c.args.tables.now.events in
    let back : c.args.place + 1 - 1 ≡ c.args.place = omega arith in
    let found = c.entry.ensures.entry ∙ ap (λ (n : ℕ). entry_of (row_at rows n)) back in
    performs_none c.args.tables.now.acts c.args.now _ c.args.actions.now c.args.out.now (λ k. event_none (row_at rows c.args.place) c.entry.result c.args.packet.now k found c.in_default.is)

pub returns-then-not-is_matched-clause-performs : goal.returns-then-not-is_matched-clause-performs
returns-then-not-is_matched-clause-performs c =
    let rows = c.args.tables.now.events in
    let back : c.args.place + 1 - 1 ≡ c.args.place = omega arith in
    let found = c.entry.ensures.entry ∙ ap (λ (n : ℕ). entry_of (row_at rows n)) back in
    performs_none c.args.tables.now.acts c.args.now _ c.args.actions.now c.args.out.now
    (λ k. event_other (row_at rows c.args.place) c.entry.result c.in-Some.entry c.args.packet.now c.is_matched.result k found c.in-Some.is c.is_matched.ensures c.if-not-is_matched.true)

pub returns-clause-performs : goal.returns-clause-performs
returns-clause-performs c =
    let rows = c.args.tables.now.events in
    let back : c.args.place + 1 - 1 ≡ c.args.place = omega arith in
    let found = c.entry.ensures.entry ∙ ap (λ (n : ℕ). entry_of (row_at rows n)) back in
    performs_same c.args.tables.now.acts c.args.now _ _ c.args.actions.now c.perform.new.self c.args.out.now c.perform.new.out
    (λ k. event_matched (row_at rows c.args.place) c.entry.result c.in-Some.entry c.args.packet.now c.is_matched.result k found c.in-Some.is c.is_matched.ensures c.if-not-is_matched.false)
    (performs_one c.args.tables.now.acts c.args.now EventMonitor c.in-Some.entry.name c.in-Some.entry.action c.args.actions.now c.perform.new.self c.args.out.now c.perform.new.out c.perform.ensures.stands c.perform.ensures.items)
