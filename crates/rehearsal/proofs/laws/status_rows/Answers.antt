use Rattle.std.proofs.Common.{refl}
use Rattle.std.specs.Fmt.{digits}
use Rattle.rehearsal.specs.Report.{error_line}
use Rattle.rehearsal.proofs.laws.status_rows.Goals as goal

pub returns : goal.returns
unfolding digits error_line
returns c = record {
  done = refl;
  words = refl;
  file = refl;
  scenario = refl;
  read = refl;
  write = refl;
  memory = refl;
  scenario_read = refl;
  last_line = refl;
}
