use Rattle.std.proofs.Common.{sym}
use Rattle.row_forms.proofs.WordsLemmas.{position_none, no_word, word_behind, word_cut}
use Rattle.row_forms.proofs.words.split_word.Goals as goal

pub returns-in-None-clause-words : goal.returns-in-None-clause-words
returns-in-None-clause-words c = no_word _ (position_none _ _ (sym c.in-None.ensures))

pub returns-in-Some-clause-words : goal.returns-in-Some-clause-words
returns-in-Some-clause-words c = (word_behind _ _ _ _ _ _ c.in-Some.ensures c.split_at.ensures.back c.word_len.ensures.value c.split_at-in-Some.ensures.front c.split_at-in-Some.ensures.back).0

pub returns-in-Some-clause-filled : goal.returns-in-Some-clause-filled
returns-in-Some-clause-filled c = (word_behind _ _ _ _ _ _ c.in-Some.ensures c.split_at.ensures.back c.word_len.ensures.value c.split_at-in-Some.ensures.front c.split_at-in-Some.ensures.back).1

pub returns-in-Some-clause-alone : goal.returns-in-Some-clause-alone
returns-in-Some-clause-alone c =
    let some = (word_behind _ _ _ _ _ _ c.in-Some.ensures c.split_at.ensures.back c.word_len.ensures.value c.split_at-in-Some.ensures.front c.split_at-in-Some.ensures.back).1 in
    word_cut _ _ _ c.word_len.ensures.value c.split_at-in-Some.ensures.front some
