use Rattle.std.proofs.Common.{[], ◌∷◌, ◌++◌, refl, sym, ◌∙◌, subst}
use Rattle.histories.specs.Entries.Entry.{Woken}
use Rattle.hs_monitors.specs.Histories.{Input as HsInput}
use Rattle.hs_monitors.specs.State.{Stands as HsStands}
use Rattle.hs_monitors.proofs.Lists.{on_by_not}
use Rattle.app_suite.specs.Applications.{hs_setup}
use Rattle.app_suite.proofs.Health.{tables_woken as hs_woken}
use Rattle.frame_exec.proofs.applications.Applications.hs_may_count.Goals as goal

pub returns : goal.returns
returns c = λ rests tables time.
    let setup = hs_setup tables in
    let input : HsInput = record { time = time; commands = []; seen = record { events = []; counters = [] } } in
    let idle = on_by_not c.is_idle.result rests in
    record {
      state = λ history stood. (
        stood.0 ∙ sym (hs_woken setup history input),
        subst (HsStands setup (history ++ Woken input ∷ [])) c.deref.ensures (c.is_idle.ensures.stands setup history input idle refl refl (subst (HsStands setup history) (sym c.deref.ensures) stood.1)),
      );
      given = λ history stood. sym (c.is_idle.ensures.items setup history input idle refl refl (subst (HsStands setup history) (sym c.deref.ensures) stood.1));
    }
