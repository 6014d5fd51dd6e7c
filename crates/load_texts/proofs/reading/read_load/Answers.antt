use Rattle.load_texts.proofs.TakenLemmas.{given_by, given_says, given_fault}
use Rattle.load_texts.proofs.reading.read_load.Goals as goal

pub returns-in-Ok-clause-said : goal.returns-in-Ok-clause-said
returns-in-Ok-clause-said c = given_by c.args.fields.now c.args.named.now c.args.text.now _ c.read_behind.result c.in-Ok.ensures.said c.read_behind.ensures

pub returns-in-Ok-clause-accepted : goal.returns-in-Ok-clause-accepted
returns-in-Ok-clause-accepted c = given_says c.args.fields.now c.args.named.now c.args.text.now c.read_behind.result (given_by c.args.fields.now c.args.named.now c.args.text.now _ c.read_behind.result c.in-Ok.ensures.said c.read_behind.ensures)

pub returns-in-Err-clause-said : goal.returns-in-Err-clause-said
returns-in-Err-clause-said c = given_fault c.args.fields.now c.args.named.now c.args.text.now _ c.in-Err.ensures.said
