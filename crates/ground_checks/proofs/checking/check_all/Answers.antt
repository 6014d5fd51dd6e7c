use Rattle.std.proofs.Common.{length}
use Rattle.ground_checks.specs.Checked.{names_of}
use Rattle.ground_checks.proofs.CheckedLemmas.{checked_ends, seen_few}
use Rattle.ground_checks.proofs.checking.check_all.Goals as goal

pub returns-in-Ok : goal.returns-in-Ok
returns-in-Ok g c = λ before told.
    checked_ends _ c.args.first c.in-Ok.status c.end_check.result (names_of c.args.files.now) (length c.as_slice.result.now) before (g.W.Workspace.held c.look_at_files.new.workspace) (g.W.Workspace.held c.end_check.new.workspace)
    (c.in-Ok.ensures.looked before told) c.end_check.ensures.done c.end_check.ensures.refused c.end_check.ensures.words (seen_few c.args.files.now c.as_slice.result.now c.look_at_files.new.seen.items c.new-seen.result.items c.as_slice.ensures.value c.new-seen.ensures.items c.in-Ok.ensures.seen) c.end_check.ensures.earlier c.end_check.ensures.kept
