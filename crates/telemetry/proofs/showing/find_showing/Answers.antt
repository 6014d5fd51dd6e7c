use Rattle.std.proofs.Common.{◌∙◌, sym}
use Rattle.telemetry.proofs.TelemetryLemmas.{good_at, showing_found, showing_passed, showing_none}
use Rattle.telemetry.proofs.showing.find_showing.Goals as goal

pub shows-requires-clause-good : goal.shows-requires-clause-good
shows-requires-clause-good c = good_at _ _ _ c.requires.good c.loop-row-test.true

pub returns-then-shows-clause-value : goal.returns-then-shows-clause-value
returns-then-shows-clause-value c = sym (c.loop-row.invariant ∙ showing_found _ _ _ _ c.loop-row-test.true (sym c.if-shows.ensures))

pub loop-row-preserved : goal.loop-row-preserved
loop-row-preserved c = c.loop-row.invariant ∙ showing_passed _ _ _ _ c.loop-row-test.true (sym c.if-shows.ensures)

pub returns-clause-value : goal.returns-clause-value
returns-clause-value c = sym (c.loop-row.invariant ∙ showing_none _ _ _ c.loop-row-test.false)
