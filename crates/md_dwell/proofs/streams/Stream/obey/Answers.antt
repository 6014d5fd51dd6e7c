use Rattle.std.proofs.Common.{◌∙◌, ap, ◌-◌, List, slice_set}
use Rattle.md_dwell.specs.declared.tables.DwellEntry.{DwellEntry}
use Rattle.md_dwell.proofs.Courses.{obey_start, obey_jam}
use Rattle.md_dwell.proofs.streams.Stream.obey.Goals as goal

pub returns-then-names-clause-stands : goal.returns-then-names-clause-stands
returns-then-names-clause-stands c = λ entries on since images stood.
    rw c.in-Start.is (obey_start c.args.table c.in-Start.mask entries on since images c.args.self.now c.restart.new.self c.if-names.ensures stood c.restart.ensures.plan c.restart.ensures.enabled c.restart.ensures.next c.restart.ensures.wait c.restart.ensures.bytes)

pub returns-then-jammed-table-clause-stands : goal.returns-then-jammed-table-clause-stands
returns-then-jammed-table-clause-stands c = λ entries on since images stood.
    let r = c.restart-then-jammed-table in
    rw c.in-Jam.is (obey_jam c.args.table c.in-Jam.jammed c.in-Jam.number c.in-Jam.entry entries on since images c.args.self.now _ c.if-jammed-table.true stood (c.write.ensures ∙ ap (λ (entries : List DwellEntry). slice_set entries (c.in-Jam.number - 1) c.in-Jam.entry) r.ensures.plan) r.ensures.enabled r.ensures.next r.ensures.wait r.ensures.bytes)
