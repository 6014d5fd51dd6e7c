use Rattle.std.proofs.Common.{sym, ◌∙◌}
use Rattle.table_texts.proofs.LineLemmas.{nothing_left}
use Rattle.table_texts.proofs.lines.next_line.Goals as goal

pub returns-clause-line : goal.returns-clause-line
returns-clause-line c = c.lines.invariant.kept ∙ nothing_left c.lines.next c.lines.rest.now (sym c.is_empty.ensures ∙ c.lines-test.false)
