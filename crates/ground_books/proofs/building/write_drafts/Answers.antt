use Rattle.std.proofs.Common.{◌<◌, length, ◌∙◌, arith}
use Rattle.ground_books.proofs.PlacedLemmas.{drafted_more, written_same}
use Rattle.ground_books.proofs.building.write_drafts.Goals as goal

pub returns-in-Err-clause-same : goal.returns-in-Err-clause-same
returns-in-Err-clause-same g c =
    written_same c.args.files.now c.files.files c.files.place c.write_draft.new.file _ c.write_draft.ensures.same c.files.invariant.same

pub files-preserved : goal.files-preserved
files-preserved g c =
    let h : c.files.place < length c.files.files = omega arith in
    record {
      held = c.write_draft.ensures.held ∙ c.files.invariant.held;
      same = written_same c.args.files.now c.files.files c.files.place c.write_draft.new.file _ c.write_draft.ensures.same c.files.invariant.same;
      drafted = λ before told. drafted_more _ c.files.files c.files.place c.write_draft.new.file h (c.files.invariant.drafted before told) (c.in-Ok.ensures.drafted before (c.files.invariant.held ∙ told));
    }
