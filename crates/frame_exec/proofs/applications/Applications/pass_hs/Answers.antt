use Rattle.std.proofs.Common.{[], ◌∷◌, ◌++◌, refl, sym, ◌∙◌, subst}
use Rattle.hs_monitors.specs.Histories.{Input as HsInput}
use Rattle.hs_monitors.specs.State.{Stands as HsStands}
use Rattle.app_suite.specs.Applications.{hs_setup}
use Rattle.app_suite.proofs.Health.{tables_woken as hs_woken}
use Rattle.frame_exec.proofs.applications.Applications.pass_hs.Goals as goal

pub returns-then-counts-clause-passed : goal.returns-then-counts-clause-passed
returns-then-counts-clause-passed c = record {
  hs = λ tables time.
      let setup = hs_setup tables in
      let input : HsInput = record { time = time; commands = []; seen = record { events = []; counters = [] } } in
      record {
        state = λ history stood. (
          stood.0 ∙ sym (hs_woken setup history input),
          c.count.ensures.stands setup history input refl refl refl (subst (HsStands setup history) (sym c.deref_mut.ensures.value) stood.1),
        );
        given = λ history stood. sym (c.count.ensures.items setup history input refl refl refl (subst (HsStands setup history) (sym c.deref_mut.ensures.value) stood.1));
      };
  cs = refl;
  sc = refl;
  mm = refl;
  md = refl;
  lc = refl;
}

pub returns-else-counts-clause-passed : goal.returns-else-counts-clause-passed
returns-else-counts-clause-passed c = record { hs = c.requires.rests c.if-counts.false; cs = refl; sc = refl; mm = refl; md = refl; lc = refl }
