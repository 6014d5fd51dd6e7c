use Rattle.log_lines.proofs.PartsLemmas.{word_extra}
use Rattle.log_lines.proofs.parts.last_word.Goals as goal

pub returns-in-Some-more-clause-word : goal.returns-in-Some-more-clause-word
returns-in-Some-more-clause-word c =
    let words = rw c.in-Some-more.is at c.cut_word.ensures.words in
    rw c.in-Some.is (word_extra c.in-Some.words.now c.cut_word.result.0.now c.in-Some-more.field-0.now words)
