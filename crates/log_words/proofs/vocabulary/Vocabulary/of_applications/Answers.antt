use Rattle.log_words.proofs.PlaceLemmas.{same_sentence}
use Rattle.log_words.proofs.vocabulary.Vocabulary.of_applications.Goals as goal

pub returns-clause-sentences : goal.returns-clause-sentences
returns-clause-sentences c = λ epoch line. same_sentence _ epoch line (record { commands = c.commands.ensures.listed; telemetry = c.telemetry_rows.ensures.listed; events = c.events.ensures.listed })
