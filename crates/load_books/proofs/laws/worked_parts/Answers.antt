use Rattle.std.proofs.Common.{refl}
use Rattle.row_forms.specs.Words.{words}
use Rattle.load_books.specs.Cuts.{whole_lines, bare, cut}
use Rattle.load_books.specs.Worked.{parts_text, parts}
use Rattle.load_books.proofs.laws.worked_parts.Goals as goal

pub returns : goal.returns
unfolding words whole_lines bare cut parts_text parts
returns c = refl
