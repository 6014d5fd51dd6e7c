use Rattle.std.proofs.Common.{Option, List, ℕ, Bor, ap, refl, sym, subst, ◌∙◌}
use Rattle.rehearsal.specs.Promise.{shelf_use}
use Rattle.ground_runs.specs.Endings.{is_kept}
use Rattle.ground_runs.specs.KeptLogs.{staged, SettledAs}
use Rattle.ground_runs.proofs.SettlingLemmas.{ends_run, some_told, written_in, not_drilled}
use Rattle.ground_runs.proofs.running.keep_log.Goals as goal

pub returns : goal.returns
returns g c = λ before holds.
    let run = c.args.run.now in
    let what = staged c.args.what.words (shelf_use g.S.Shelf.told g.S.Shelf.is_open g.S.Shelf.faults g.S.Shelf.mark c.args.what.shelf) in
    let made = c.run_both-rehearsed.result in
    let contents = g.W.Draft.Write.contents in
    let told = g.met.W.DraftTeller.told_over c.args.workspace.now before holds in
    let log = some_told (contents made.log.draft) (g.met.W.DraftTeller.tells made.log.draft told) in
    let words = some_told (contents made.words) (g.met.W.DraftTeller.tells made.words told) in
    let empty = ap contents c.new-sink.ensures.draft ∙ c.in-Ok.ensures.empty before holds in
    ends_run what run made.ending.status made.ending.frames log.0 words.0 c.settle_both.result before (g.W.Workspace.held c.settle_both.new.workspace)
    (record {
      writes = λ writes. written_in what _ _ c.new-sink.result made.log made.ending.status made.ending.frames g.W.DraftTeller.are_told (contents c.new-sink.result.draft) (contents made.log.draft) log.0
          refl refl told c.new-sink.ensures.faults empty log.1 (c.run_both-rehearsed.ensures.log writes);
      summed = not_drilled run c.args.log run.log c.requires.named c.requires.well _;
      strict = c.run_both-rehearsed.ensures.strict;
      well = c.requires.well;
    })
    (subst (λ (l : Option (Bor (List ℕ))). SettledAs l log.0 run.output.now words.0 (is_kept made.ending.status made.ending.frames) made.ending.status c.settle_both.result before (g.W.Workspace.held c.settle_both.new.workspace)) (sym c.requires.named)
    (c.settle_both.ensures before log.0 words.0 (c.run_both-rehearsed.ensures.held ∙ c.begin.ensures.held ∙ holds) log.1 words.1))
