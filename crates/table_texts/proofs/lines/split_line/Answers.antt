use Rattle.std.proofs.Common.{sym}
use Rattle.table_texts.proofs.LineLemmas.{kept_at, kept_alone}
use Rattle.table_texts.proofs.lines.split_line.Goals as goal

pub returns-in-Some-clause-line : goal.returns-in-Some-clause-line
returns-in-Some-clause-line c = λ n. rw (c.front.ensures, c.behind.ensures) (kept_at c.args.text.now c.in-Some.at n (sym c.in-Some.ensures))

pub returns-in-None-clause-line : goal.returns-in-None-clause-line
returns-in-None-clause-line c = λ n. kept_alone c.args.text.now n (sym c.in-None.ensures)
