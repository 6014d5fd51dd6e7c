use Rattle.log_lines.specs.declared.line.LineItem.TheVariants as items
use Rattle.log_lines.proofs.LineLemmas.{line_back}
use Rattle.log_lines.proofs.laws.drop_lines_read_back.Goals as goal

pub returns : goal.returns
returns c = λ frame lost small is. line_back (record { frame = frame; item = items.Drop lost }) (record { frame = small; item = is })
