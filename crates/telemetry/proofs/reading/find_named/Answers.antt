use Rattle.std.proofs.Common.{◌∙◌, sym}
use Rattle.telemetry.proofs.TelemetryLemmas.{good_at, named_found, named_passed, named_none}
use Rattle.telemetry.proofs.reading.find_named.Goals as goal

pub returns-then-eq-clause-value : goal.returns-then-eq-clause-value
returns-then-eq-clause-value c = sym (c.loop-row.invariant ∙ named_found _ _ _ _ _ c.loop-row-test.true c.as_bytes.ensures.value c.if-eq.ensures)

pub returns-then-eq-clause-good : goal.returns-then-eq-clause-good
returns-then-eq-clause-good c = good_at _ _ _ c.requires c.loop-row-test.true

pub loop-row-preserved : goal.loop-row-preserved
loop-row-preserved c = c.loop-row.invariant ∙ named_passed _ _ _ _ _ c.loop-row-test.true c.as_bytes.ensures.value c.if-eq.ensures

pub returns-clause-value : goal.returns-clause-value
returns-clause-value c = sym (c.loop-row.invariant ∙ named_none _ _ _ c.loop-row-test.false)
