use Rattle.std.proofs.Common.{sym, ◌∙◌}
use Rattle.row_forms.specs.Words.{words}
use Rattle.plan_text.proofs.WritingLemmas.{word_put, none_left}
use Rattle.plan_text.proofs.writing.put_words.Goals as goal

pub words-preserved : goal.words-preserved
words-preserved c = c.words.invariant ∙ word_put _ c.in-Some.word.now c.words.out.items _ _ (words c.in-Some.more.now) c.in-Some.ensures.words c.in_ok-push.ensures.items c.in_ok-extend_from_slice.ensures.items

pub returns : goal.returns
returns c = none_left c.words.out.items _ c.in_default.ensures.words ∙ sym c.words.invariant
