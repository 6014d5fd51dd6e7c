use Rattle.scenario.proofs.SendLemmas.{bytes_said}
use Rattle.scenario.proofs.sentence.read_send.Goals as goal

pub returns-clause-said : goal.returns-clause-said
returns-clause-said c = bytes_said c.args.rest.now c.behind_spaces-word.result.now c.hex.new.places c.hex.result c.behind_spaces-word.ensures c.hex.ensures.bytes
