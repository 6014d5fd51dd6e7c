use Rattle.std.proofs.lemmas.Result.{IfOk-weaker}
use Rattle.verb_words.specs.Words.{with_verb}
use Rattle.verb_words.proofs.PlainLemmas.{third_of}
use Rattle.verb_words.proofs.command_line.with_verb.Goals as goal

pub returns : goal.returns
unfolding with_verb
returns c = IfOk-weaker c.subcommand.result _ _ (λ command added. added.shape (third_of _ _ _ _ c.requires)) c.subcommand.ensures
