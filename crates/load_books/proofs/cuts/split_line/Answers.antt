use Rattle.std.proofs.Common.{sym}
use Rattle.load_books.proofs.CutLemmas.{line_found, bare_found, line_alone, bare_alone}
use Rattle.load_books.proofs.cuts.split_line.Goals as goal

pub returns-in-Some-clause-line : goal.returns-in-Some-clause-line
returns-in-Some-clause-line c = rw c.behind.ensures (line_found c.args.text.now c.in-Some.at (sym c.in-Some.ensures))

pub returns-in-Some-clause-bytes : goal.returns-in-Some-clause-bytes
returns-in-Some-clause-bytes c = rw c.front.ensures (bare_found c.args.text.now c.in-Some.at (sym c.in-Some.ensures))

pub returns-in-None-clause-line : goal.returns-in-None-clause-line
returns-in-None-clause-line c = rw c.behind-in-None.ensures (line_alone c.args.text.now (sym c.in-None.ensures) c.requires)

pub returns-in-None-clause-bytes : goal.returns-in-None-clause-bytes
returns-in-None-clause-bytes c = bare_alone c.args.text.now (sym c.in-None.ensures)
