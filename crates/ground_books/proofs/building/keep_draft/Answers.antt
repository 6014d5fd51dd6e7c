use Rattle.std.proofs.Common.{◌∙◌, sym}
use Rattle.ground_books.proofs.PlacedLemmas.{draft_kept}
use Rattle.ground_books.proofs.building.keep_draft.Goals as goal

pub returns-in-Some-clause-put : goal.returns-in-Some-clause-put
returns-in-Some-clause-put g c =
    draft_kept c.settle.result g.W.Draft.Write.contents c.args.file.now c.in-Some.draft (g.W.Workspace.held c.args.workspace.now) (g.W.Workspace.held c.settle.new.self) _ (sym c.take.ensures.value ∙ c.in-Some.is) c.as_str.ensures.value c.settle.ensures.held
