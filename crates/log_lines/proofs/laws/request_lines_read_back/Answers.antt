use Rattle.log_lines.specs.declared.line.LineItem.TheVariants as items
use Rattle.log_lines.proofs.LineLemmas.{line_back}
use Rattle.log_lines.proofs.laws.request_lines_read_back.Goals as goal

pub returns : goal.returns
returns c = record {
  reset = λ frame small. line_back (record { frame = frame; item = items.Reset }) (record { frame = small; item = tt });
  restart = λ frame name small is. line_back (record { frame = frame; item = items.Restart name }) (record { frame = small; item = is });
  delete = λ frame name small is. line_back (record { frame = frame; item = items.Delete name }) (record { frame = small; item = is });
}
