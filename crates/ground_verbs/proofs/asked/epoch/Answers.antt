use Rattle.std.specs.Str.Parse.{ParsesUnsigned, ExplainsUnsignedError, HasUnsignedDigitsIfOk}
use Rattle.ground_verbs.proofs.SaidLemmas.{epoch_read}
use Rattle.ground_verbs.proofs.asked.epoch.Goals as goal

pub returns : goal.returns
returns c = epoch_read (λ t r. ParsesUnsigned 32 10 t r × ExplainsUnsignedError 10 t r × HasUnsignedDigitsIfOk t r) (λ t r read. read.0) c.args.words.now c.get_one.result c.get_one.ensures.none c.get_one.ensures.value
