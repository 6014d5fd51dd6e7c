use Rattle.std.proofs.Common.{Result, sym, subst}
use Rattle.scenario.specs.declared.reason.Reason.{Reason}
use Rattle.scenario.specs.declared.sentence.Sentence.{Sentence}
use Rattle.scenario.specs.Sentences.{Gives, as_said}
use Rattle.scenario.proofs.SendLemmas.{said_alone, said_by_word}
use Rattle.scenario.proofs.sentence.send_line.Goals as goal

pub returns-in-Ok-clause-value : goal.returns-in-Ok-clause-value
returns-in-Ok-clause-value c = said_alone c.args.rest.now _ c.read_hex.new.said c.behind_spaces.ensures c.in-Ok.ensures.value

pub returns-in_ok-word-in-Err-clause-value : goal.returns-in_ok-word-in-Err-clause-value
returns-in_ok-word-in-Err-clause-value c =
    subst (λ (read : Result Sentence Reason). Gives (λ _. c.read_hex-in-Err.new.said) c.read_hex-in-Err.result (as_said read))
    (sym (said_by_word c.args.rest.now c.in_ok-word-in-Err.word.now c.in_ok-word-in-Err.ensures.word)) c.read_hex-in-Err.ensures.value
