use Rattle.std.proofs.Common.{◌≡◌, ◌≤◌, ◌<◌, refl, arith, length, ap, cond, false, ◌∙◌, get_or, ℕ}
use Rattle.std.specs.Prelude.{◌==◌, Some, None}
use Rattle.std.proofs.lemmas.List.{length-set}
use Rattle.cs_slices.specs.Instructions.{IsTable}
use Rattle.cs_slices.proofs.Switching.{switches_after, set_switch, switched}
use Rattle.cs_slices.proofs.switches.Switches.obey.Goals as goal

pub returns-in-Plain : goal.returns-in-Plain
returns-in-Plain c = λ tables happened stood. rw c.in-Plain.is (switches_after tables happened _ c.args.self.now _ stood refl refl refl refl (λ k below. refl))

pub returns-in-Whole : goal.returns-in-Whole
returns-in-Whole c = λ tables happened stood. rw c.in-Whole.is (switches_after tables happened _ c.args.self.now _ stood refl refl refl refl (λ k below. refl))

pub returns-in-Report : goal.returns-in-Report
returns-in-Report c = λ tables happened stood. rw c.in-Report.is (switches_after tables happened _ c.args.self.now _ stood refl refl refl refl (λ k below. refl))

pub returns-then-table-eq1 : goal.returns-then-table-eq1
returns-then-table-eq1 c = λ tables happened stood. rw (c.in-Table.is, c.if-table-eq1.true) (switches_after tables happened _ c.args.self.now _ stood refl refl refl refl (λ k below. refl))

pub returns-else-table-eq1 : goal.returns-else-table-eq1
returns-else-table-eq1 c = λ tables happened stood.
    let named : IsTable c.in-Table.table = rw c.in-Table.is at c.requires in
    let low : 1 ≤ c.in-Table.table = named.0 in
    let high : c.in-Table.table ≤ 2 = named.1 in
    let second : c.in-Table.table ≡ 2 = omega (arith, c.if-table-eq1.false) in
    rw (c.in-Table.is, second) (switches_after tables happened _ c.args.self.now _ stood refl refl refl refl (λ k below. refl))

pub returns-in-Entry : goal.returns-in-Entry
returns-in-Entry c = λ tables happened stood.
    let whole : length c.args.self.now.entries ≡ 32 = stood.whole in
    let within : c.entry_place.result < length c.args.self.now.entries = omega (arith, c.entry_place.ensures.within) in
    rw c.in-Entry.is (switches_after tables happened _ c.args.self.now _ stood refl refl refl (length-set c.args.self.now.entries c.entry_place.result c.in-Entry.on)
    (λ k below. set_switch c.args.self.now.entries c.entry_place.result k c.in-Entry.on within
    ∙ ap (λ (i : ℕ). switched (cond (i == k) (Some c.in-Entry.on) None) (get_or c.args.self.now.entries k false)) c.entry_place.ensures.place))
