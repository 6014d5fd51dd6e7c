use Rattle.std.proofs.Common.{refl, arith}
use Rattle.ground_checks.proofs.CheckedLemmas.{looked_next, looked_all, looked_kept, kept_then}
use Rattle.ground_checks.proofs.checking.look_at_files.Goals as goal

pub returns-in_err-one-clause-kept : goal.returns-in_err-one-clause-kept
returns-in_err-one-clause-kept g c = λ before told.
    kept_then before _ _ _ c.check_file.ensures.held (λ held. refl) (looked_kept _ _ _ _ before _ (c.files.invariant.looked before told))

pub files-preserved : goal.files-preserved
files-preserved g c = record {
  looked = λ before told.
      looked_next _ c.args.first c.files.status c.in_ok-one.one c.earlier-status.result c.args.files.now c.files.file-index _ before (g.W.Workspace.held c.files.workspace) (g.W.Workspace.held c.check_file.new.workspace)
      c.files-test.true (c.files.invariant.looked before told) c.check_file.ensures.held c.in_ok-one.ensures.taken c.in_ok-one.ensures.refused c.in_ok-one.ensures.words c.in_ok-one.ensures.status c.earlier-status.ensures.done c.earlier-status.ensures.first;
  seen = omega arith;
}

pub returns-clause-kept : goal.returns-clause-kept
returns-clause-kept g c = λ before told. looked_kept _ _ _ _ before _ (c.files.invariant.looked before told)

pub returns-clause-looked : goal.returns-clause-looked
returns-clause-looked g c = λ before told. looked_all _ c.args.first c.files.status c.args.files.now c.files.file-index before _ c.files-test.false (c.files.invariant.looked before told)
