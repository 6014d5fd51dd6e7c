use Rattle.std.proofs.Common.{◌∙◌, sym}
use Rattle.telecommands.proofs.CommandLemmas.{good_at, named_found, named_passed, named_none}
use Rattle.telecommands.proofs.reading.find_named.Goals as goal

pub returns-then-eq-clause-value : goal.returns-then-eq-clause-value
returns-then-eq-clause-value c = sym (c.loop-command.invariant ∙ named_found _ _ _ _ _ c.loop-command-test.true c.as_bytes.ensures.value c.if-eq.ensures)

pub returns-then-eq-clause-good : goal.returns-then-eq-clause-good
returns-then-eq-clause-good c = good_at _ _ _ c.requires c.loop-command-test.true

pub loop-command-preserved : goal.loop-command-preserved
loop-command-preserved c = c.loop-command.invariant ∙ named_passed _ _ _ _ _ c.loop-command-test.true c.as_bytes.ensures.value c.if-eq.ensures

pub returns-clause-value : goal.returns-clause-value
returns-clause-value c = sym (c.loop-command.invariant ∙ named_none _ _ _ c.loop-command-test.false)
