use Rattle.events.proofs.PlaceLemmas.{placed_sentence, placed_refused}
use Rattle.events.proofs.laws.places_say_nothing.Goals as goal

pub returns-clause-event : goal.returns-clause-event
returns-clause-event c = placed_sentence

pub returns-clause-refusal : goal.returns-clause-refusal
returns-clause-refusal c = placed_refused
