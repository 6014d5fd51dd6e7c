use Rattle.std.proofs.Common.{refl}
use Rattle.hs_actions.proofs.laws.number_rows.Goals as goal

pub returns : goal.returns
returns c = record {
  reset = refl;
  restart = refl;
  report = refl;
  first_message = refl;
  last_message = refl;
}
