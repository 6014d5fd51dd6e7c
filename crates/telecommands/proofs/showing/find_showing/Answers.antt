use Rattle.std.proofs.Common.{◌∙◌, sym}
use Rattle.telecommands.proofs.CommandLemmas.{good_at, showing_found, showing_passed, showing_none}
use Rattle.telecommands.proofs.showing.find_showing.Goals as goal

pub shows-requires : goal.shows-requires
shows-requires c = good_at _ _ _ c.requires c.loop-command-test.true

pub returns-then-shows-clause-value : goal.returns-then-shows-clause-value
returns-then-shows-clause-value c = sym (c.loop-command.invariant ∙ showing_found _ _ _ _ c.loop-command-test.true (sym c.if-shows.ensures))

pub loop-command-preserved : goal.loop-command-preserved
loop-command-preserved c = c.loop-command.invariant ∙ showing_passed _ _ _ _ c.loop-command-test.true (sym c.if-shows.ensures)

pub returns-clause-value : goal.returns-clause-value
returns-clause-value c = sym (c.loop-command.invariant ∙ showing_none _ _ _ c.loop-command-test.false)
