use Rattle.std.proofs.Common.{[], ◌∷◌, ◌++◌, refl, sym, ◌∙◌, subst}
use Rattle.histories.specs.Entries.Entry.{Woken}
use Rattle.sc_sequences.specs.Histories.{Input, input_of}
use Rattle.sc_sequences.specs.State.{Stands}
use Rattle.sc_sequences.proofs.Loaded.{tables_woken}
use Rattle.app_suite.specs.Applications.{sc_begun}
use Rattle.frame_exec.proofs.applications.Applications.owes_nothing.Goals as goal

pub returns : goal.returns
returns c = λ idle tables.
    let begun = sc_begun tables in
    let input : Input = input_of c.args.time [] in
    record {
      state = λ history stood. (
        stood.0 ∙ sym (tables_woken begun history input),
        subst (Stands begun (history ++ Woken input ∷ [])) c.deref.ensures (c.is_idle.ensures.stands begun history input idle refl refl (subst (Stands begun history) (sym c.deref.ensures) stood.1)),
      );
      given = λ history stood. sym (c.is_idle.ensures.items begun history input idle refl refl (subst (Stands begun history) (sym c.deref.ensures) stood.1));
    }
