use Rattle.std.proofs.Common.{sym}
use Rattle.row_forms.proofs.PartsLemmas.{whole_part, part_at}
use Rattle.row_forms.proofs.parts.split_part.Goals as goal

pub returns-in-Some-clause-parts : goal.returns-in-Some-clause-parts
returns-in-Some-clause-parts c = rw (c.front.ensures, c.behind.ensures) (part_at _ _ (sym c.in-Some.ensures))

pub returns-in-None-clause-parts : goal.returns-in-None-clause-parts
returns-in-None-clause-parts c = whole_part _ (sym c.in-None.ensures)
