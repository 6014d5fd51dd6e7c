use Rattle.std.proofs.Common.{arith, ◌<◌, ◌≤◌, ◌+◌, sym, ◌∙◌}
use Rattle.std.proofs.lemmas.List.FromFn.{length-map-range_with_len}
use Rattle.table_files.specs.Entries.{entries_in}
use Rattle.table_files.proofs.Entries.{fault_later, fault_here, fault_none}
use Rattle.table_files.proofs.loading.first_fault.Goals as goal

pub returns-in-Some-clause-fault : goal.returns-in-Some-clause-fault
unfolding entries_in
returns-in-Some-clause-fault g c =
    let within : c.loop-i.i < g.E.Entry.ENTRIES = omega arith in
    sym (c.loop-i.invariant
    ∙ fault_here g.E.Entry.reason_of (g.E.Entry.entry_at c.args.payload.now) g.E.Entry.ENTRIES c.loop-i.i c.in-Some.reason within (rw (← c.read.ensures) (sym c.in-Some.ensures.least)))

pub loop-i-preserved : goal.loop-i-preserved
unfolding entries_in
loop-i-preserved g c =
    let within : c.loop-i.i < g.E.Entry.ENTRIES = omega arith in
    c.loop-i.invariant ∙ fault_later g.E.Entry.reason_of (g.E.Entry.entry_at c.args.payload.now) g.E.Entry.ENTRIES c.loop-i.i within (rw (← c.read.ensures) (sym c.reason.ensures.least ∙ c.in_default.is))

pub returns-clause-fault : goal.returns-clause-fault
unfolding entries_in
returns-clause-fault g c =
    let past : g.E.Entry.ENTRIES ≤ c.loop-i.i = omega arith in
    sym (c.loop-i.invariant ∙ fault_none g.E.Entry.reason_of (entries_in g.E.Entry.entry_at g.E.Entry.ENTRIES c.args.payload.now) (c.loop-i.i + 1) c.loop-i.i (omega (arith, length-map-range_with_len (g.E.Entry.entry_at c.args.payload.now) 0 g.E.Entry.ENTRIES)))
