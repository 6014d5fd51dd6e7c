use Rattle.std.proofs.Common.{[], ◌∷◌, ◌++◌, refl, sym, ◌∙◌, subst}
use Rattle.histories.specs.Entries.Entry.{Woken}
use Rattle.cs_slices.specs.Wakeups.{Input as CsInput}
use Rattle.cs_slices.specs.State.{Stands as CsStands}
use Rattle.cs_slices.proofs.Histories.{tables_woken as cs_woken}
use Rattle.mm_core.specs.Step.{Input as MmInput}
use Rattle.mm_core.specs.State.{Stands as MmStands}
use Rattle.md_dwell.specs.Orders.{Input as MdInput}
use Rattle.md_dwell.specs.State.{Stands as MdStands}
use Rattle.lc_watch.specs.Histories.{Input as LcInput, input_of as lc_input_of}
use Rattle.lc_watch.specs.State.{Stands as LcStands}
use Rattle.app_suite.specs.Applications.{cs_tables}
use Rattle.frame_exec.proofs.applications.Applications.are_idle.Goals as goal

pub returns : goal.returns
returns c = λ idle. record {
  cs = λ tables time memory.
      let first = cs_tables tables.first in
      let input : CsInput = record { time = time; commands = []; seen = memory } in
      record {
        state = λ history stood. (
          stood.0 ∙ sym (cs_woken first history input),
          subst (CsStands first (history ++ Woken input ∷ [])) c.deref-3.ensures (c.is_idle-3.ensures.stands first history input c.if-not-is_idle-3.false refl (subst (CsStands first history) (sym c.deref-3.ensures) stood.1)),
        );
        given = λ history stood. sym (c.is_idle-3.ensures.items first history input c.if-not-is_idle-3.false refl (subst (CsStands first history) (sym c.deref-3.ensures) stood.1));
      };
  mm = λ tables loads time memory.
      let input : MmInput = record { time = time; commands = []; seen = record { image = memory; loads = loads } } in
      record {
        state = λ history stood. subst (MmStands (history ++ input ∷ [])) c.deref-4.ensures (c.is_idle-4.ensures.stands history input idle refl (subst (MmStands history) (sym c.deref-4.ensures) stood));
        given = λ history stood. sym (c.is_idle-4.ensures.items history input idle refl);
      };
  operations = λ loads time memory.
      let input : MmInput = record { time = time; commands = []; seen = record { image = memory; loads = loads } } in
      c.is_idle-4.ensures.operations input idle refl;
  md = λ tables time memory.
      let first = tables.first.dwells in
      let input : MdInput = record { time = time; commands = []; seen = memory } in
      record {
        state = λ history stood. subst (MdStands first (history ++ Woken input ∷ [])) c.deref.ensures (c.is_idle.ensures.stands first history input c.if-not-is_idle.false refl (subst (MdStands first history) (sym c.deref.ensures) stood));
        given = λ history stood. sym (c.is_idle.ensures.items first history input c.if-not-is_idle.false refl (subst (MdStands first history) (sym c.deref.ensures) stood));
      };
  lc = λ setup time.
      let input : LcInput = lc_input_of time [] [] in
      record {
        state = λ history stood.
            subst (LcStands setup.watch setup.actions (history ++ input ∷ [])) c.deref-2.ensures (c.is_idle-2.ensures.stands setup.watch setup.actions history input c.if-not-is_idle-2.false refl refl (subst (LcStands setup.watch setup.actions history) (sym c.deref-2.ensures) stood));
        given = λ history stood. sym (c.is_idle-2.ensures.items setup.watch setup.actions history input c.if-not-is_idle-2.false refl refl (subst (LcStands setup.watch setup.actions history) (sym c.deref-2.ensures) stood));
      };
}
