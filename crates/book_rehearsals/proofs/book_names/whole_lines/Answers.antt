use Rattle.std.proofs.Common.{arith}
use Rattle.book_rehearsals.proofs.BeginningLemmas.{cut_at}
use Rattle.book_rehearsals.proofs.book_names.whole_lines.Goals as goal

pub returns-then-text-end-eq10 : goal.returns-then-text-end-eq10
returns-then-text-end-eq10 c = cut_at c.args.text.now _ 0 (omega arith) c.if-text-end-eq10.true
