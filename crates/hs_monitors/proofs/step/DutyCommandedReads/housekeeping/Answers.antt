use Rattle.std.proofs.Common.{◌∙◌, ap, refl}
use Rattle.hs_tables.specs.declared.tables.HsTables.{HsTables}
use Rattle.hs_monitors.specs.Watches.{watch_at}
use Rattle.hs_monitors.specs.Housekeeping.{watching_bits}
use Rattle.hs_monitors.proofs.Showing.{housekeeping_shown}
use Rattle.hs_monitors.proofs.Waking.{kept_on}
use Rattle.hs_monitors.proofs.step.DutyCommandedReads.housekeeping.Goals as goal

pub returns-clause-packet : goal.returns-clause-packet
returns-clause-packet c = λ turn orders left belongs stood.
    let tables = c.args.reads.tables.now in
    let self = c.args.self.now in
    let shown = c.shown-shown.result in
    let checks = watch_at turn.history orders in
    housekeeping_shown turn.setup turn.history turn.input orders c.args.counts self c.args.now shown.watching c.housekeeping.result stood belongs.2
    (c.shown-shown.ensures.watching checks (kept_on turn.setup turn.history tables checks self.kept belongs.0 stood.kept) ∙ ap (λ (t : HsTables). watching_bits t.apps checks) belongs.0)
    (c.housekeeping.ensures.packet ∙ rw (c.shown-shown.ensures.monitoring, c.shown-shown.ensures.listening, belongs.1, ap (λ (t : HsTables). t.counts) belongs.0) refl)
