use Rattle.std.proofs.Common.{◌≡◌, ◌++◌, length}
use Rattle.row_forms.specs.Words.{words}
use Rattle.row_forms.specs.Rows.{spaced}
use Rattle.plan_text.proofs.writing.put_words.Given as goal

abbrev pub invariant-words : goal.invariant-words
invariant-words l = l.fn.out.items ++ spaced (words l.line) ≡ l.out.items ++ spaced (words l.rest)

abbrev pub decreases-words : goal.decreases-words
decreases-words l = length l.rest
