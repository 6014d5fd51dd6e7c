use Rattle.std.proofs.Common.{◌<◌, ◌≤◌, length, arith}
use Rattle.ground_books.proofs.PlacedLemmas.{rest_same, put_next, put_whole, put_first}
use Rattle.ground_books.proofs.building.keep_drafts.Goals as goal

pub returns-in-Err-clause-some : goal.returns-in-Err-clause-some
returns-in-Err-clause-some g c = λ before told drafted.
    put_first c.args.files.now c.files.place before (g.W.Workspace.held c.files.workspace) (g.W.Workspace.held c.keep_draft.new.workspace) (c.files.invariant.put before told drafted) c.in-Err.ensures.kept

pub files-preserved : goal.files-preserved
files-preserved g c =
    let h : c.files.place < length c.files.files = omega arith in
    record {
      rest = rest_same c.args.files.now c.files.files c.files.place c.keep_draft.new.file c.files.invariant.rest;
      put = λ before told drafted. put_next g.W.Draft.Write.contents c.args.files.now c.files.files c.files.place c.index-files-place.result before (g.W.Workspace.held c.files.workspace) (g.W.Workspace.held c.keep_draft.new.workspace)
          h c.files.invariant.rest drafted c.in-Ok.ensures.put (c.files.invariant.put before told drafted);
    }

pub returns-clause-put : goal.returns-clause-put
returns-clause-put g c = λ before told drafted.
    let h : length c.args.files.now ≤ c.files.place = omega arith in
    put_whole c.args.files.now c.files.files c.files.place before (g.W.Workspace.held c.files.workspace) h (c.files.invariant.put before told drafted)
