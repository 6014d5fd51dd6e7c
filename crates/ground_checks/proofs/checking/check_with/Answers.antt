use Rattle.std.proofs.Common.{refl}
use Rattle.ground_files.specs.declared.verb_status.Status.TheVariants as statuses
use Rattle.ground_checks.specs.Checked.{names_of}
use Rattle.ground_checks.proofs.CheckedLemmas.{checked_behind}
use Rattle.ground_checks.proofs.checking.check_with.Goals as goal

pub returns : goal.returns
returns g c = λ before told.
    checked_behind _ c.tell_map-first.result statuses.Done c.check_all.result (names_of c.args.files.now) before (g.W.Workspace.held c.tell_map-first.new.workspace) (g.W.Workspace.held c.check_all.new.workspace)
    (c.tell_map-first.ensures.kept before told) refl c.tell_map-first.ensures.status c.check_all.ensures
