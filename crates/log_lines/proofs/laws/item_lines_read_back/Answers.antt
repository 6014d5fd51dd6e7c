use Rattle.log_lines.specs.declared.line.LineItem.TheVariants as items
use Rattle.log_lines.proofs.LineLemmas.{line_back}
use Rattle.log_lines.proofs.laws.item_lines_read_back.Goals as goal

pub returns : goal.returns
returns c = record {
  made = λ frame packet small is. line_back (record { frame = frame; item = items.Packet packet }) (record { frame = small; item = is });
  stored = λ frame packet small is. line_back (record { frame = frame; item = items.Packet packet }) (record { frame = small; item = is });
}
