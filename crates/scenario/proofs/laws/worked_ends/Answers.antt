use Rattle.std.proofs.Common.{refl}
use Rattle.scenario.specs.Words.{words}
use Rattle.scenario.specs.Sentences.{said, line_says}
use Rattle.scenario.specs.Texts.{reads}
use Rattle.scenario.proofs.laws.worked_ends.Goals as goal

pub returns-clause-last : goal.returns-clause-last
unfolding reads line_says said words
returns-clause-last c = refl

pub returns-clause-late : goal.returns-clause-late
unfolding reads
returns-clause-late c = refl
