use Rattle.std.proofs.Common.{ap, sym, ◌∙◌}
use Rattle.plan_text.specs.Lines.{line_text}
use Rattle.load_books.proofs.NamingLemmas.{blank}
use Rattle.load_books.proofs.naming.show_other.Goals as goal

pub returns-in-Some : goal.returns-in-Some
returns-in-Some c = c.plain_line.ensures ∙ sym (ap line_text c.in-Some.ensures.words)

pub returns-in-None : goal.returns-in-None
returns-in-None c = blank _ c.in-None.ensures.words
