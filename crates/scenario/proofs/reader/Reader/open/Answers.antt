use Rattle.std.proofs.Common.{◌∙◌, refl}
use Rattle.scenario.proofs.StandingLemmas.{stands_opened}
use Rattle.scenario.proofs.reader.Reader.open.Goals as goal

pub returns-clause-stands : goal.returns-clause-stands
returns-clause-stands c = stands_opened _ (c.in_ok-line.ensures.ok ∙ c.new.ensures) refl refl c.in_ok-progress.ensures.follows c.in_ok-progress.ensures.hidden
