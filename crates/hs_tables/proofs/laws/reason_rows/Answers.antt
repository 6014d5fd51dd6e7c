use Rattle.std.proofs.Common.{refl}
use Rattle.hs_tables.specs.Apps.{row_reason as app_reason}
use Rattle.hs_tables.specs.Events.{row_reason as event_reason}
use Rattle.hs_tables.specs.Counters.{row_reason as count_reason}
use Rattle.hs_tables.specs.Actions.{row_reason as act_reason}
use Rattle.hs_tables.proofs.laws.reason_rows.Goals as goal

pub returns : goal.returns
unfolding app_reason event_reason count_reason act_reason
returns c = record {
  app = refl;
  app_action = refl;
  app_unused = refl;
  event = refl;
  event_action = refl;
  event_unused = refl;
  count = refl;
  count_sort = refl;
  count_used = refl;
  act = refl;
  act_state = refl;
  act_unused = refl;
}
