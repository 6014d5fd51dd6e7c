use Rattle.hs_monitors.proofs.Passing.{just_kept}
use Rattle.hs_monitors.proofs.kept.Kept.begun.Goals as goal

pub returns : goal.returns
returns c =
    just_kept c.args.apps.now _ c.begin_all.result.1 c.begin_all.result.0 c.least_of-least.result c.begin_all.ensures.whole c.begin_all.ensures.heads c.begin_all.ensures.stands c.least_of-least.ensures.some c.least_of-least.ensures.least
