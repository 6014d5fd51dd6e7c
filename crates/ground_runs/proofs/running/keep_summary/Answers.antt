use Rattle.std.proofs.Common.{Option, List, ℕ, Bor, ap, refl, sym, subst, ◌∙◌}
use Rattle.rehearsal.specs.Promise.{shelf_use}
use Rattle.ground_runs.specs.Endings.{is_kept}
use Rattle.ground_runs.specs.KeptLogs.{staged, SettledAs}
use Rattle.ground_runs.proofs.SettlingLemmas.{ends_run, some_told, written_in, unnamed_well}
use Rattle.ground_runs.proofs.running.keep_summary.Goals as goal

pub returns : goal.returns
returns g c = λ before holds begun.
    let run = c.args.run.now in
    let what = staged c.args.what.words (shelf_use g.S.Shelf.told g.S.Shelf.is_open g.S.Shelf.faults g.S.Shelf.mark c.args.what.shelf) in
    let ending = c.run_drill-sink.result.0 in
    let sink = c.run_drill-sink.result.1 in
    let contents = g.W.Draft.Write.contents in
    let told = g.met.W.DraftTeller.told_over c.args.workspace.now before holds in
    let text = some_told (contents sink.draft) (g.met.W.DraftTeller.tells sink.draft told) in
    let empty = ap contents c.new-sink.ensures.draft ∙ begun in
    ends_run what run ending.status ending.frames text.0 text.0 c.settle_alone.result before (g.W.Workspace.held c.settle_alone.new.workspace)
    (record {
      writes = λ writes. written_in what _ _ c.new-sink.result sink ending.status ending.frames g.W.DraftTeller.are_told (contents c.new-sink.result.draft) (contents sink.draft) text.0
          refl refl told c.new-sink.ensures.faults empty text.1 (c.run_drill-sink.ensures.log writes);
      summed = λ drill. refl;
      strict = λ unwanted. absurd (c.run_drill-sink.ensures.judged unwanted);
      well = unnamed_well run run.log c.requires;
    })
    (subst (λ (l : Option (Bor (List ℕ))). SettledAs l text.0 run.output.now text.0 (is_kept ending.status ending.frames) ending.status c.settle_alone.result before (g.W.Workspace.held c.settle_alone.new.workspace)) (sym c.requires)
    (c.settle_alone.ensures before text.0 text.0 (c.run_drill-sink.ensures.held ∙ holds) (ap contents c.into_draft.ensures ∙ text.1)))
