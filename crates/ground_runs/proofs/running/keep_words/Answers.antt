use Rattle.std.proofs.Common.{Option, Some, List, ℕ, Bor, ap, refl, sym, subst, ◌∙◌}
use Rattle.rehearsal.specs.Promise.{shelf_use}
use Rattle.packet_log.specs.Logged.{logged}
use Rattle.ground_runs.specs.Endings.{is_kept}
use Rattle.ground_runs.specs.Refusals.{is_drill}
use Rattle.ground_runs.specs.KeptLogs.{staged, SettledAs}
use Rattle.ground_runs.proofs.SettlingLemmas.{ends_run, some_told, written_out, unnamed_well, not_both}
use Rattle.ground_runs.proofs.running.keep_words.Goals as goal

pub returns : goal.returns
returns g c = λ before holds begun.
    let run = c.args.run.now in
    let what = staged c.args.what.words (shelf_use g.S.Shelf.told g.S.Shelf.is_open g.S.Shelf.faults g.S.Shelf.mark c.args.what.shelf) in
    let made = c.run_both-rehearsed.result in
    let contents = g.W.Draft.Write.contents in
    let told = g.met.W.DraftTeller.told_over c.args.workspace.now before holds in
    let words = some_told (contents made.words) (g.met.W.DraftTeller.tells made.words told) in
    let bytes = logged made.log in
    ends_run what run made.ending.status made.ending.frames bytes words.0 c.settle_alone.result before (g.W.Workspace.held c.settle_alone.new.workspace)
    (record {
      writes = λ writes. written_out what _ _ c.start.result made.log made.ending.status made.ending.frames bytes refl (ap Some c.start.ensures) refl (c.run_both-rehearsed.ensures.log writes);
      summed = not_both (is_drill run.scenario.now) (sym c.if-is_drill.ensures);
      strict = c.run_both-rehearsed.ensures.strict;
      well = unnamed_well run run.log c.requires;
    })
    (subst (λ (l : Option (Bor (List ℕ))). SettledAs l bytes run.output.now words.0 (is_kept made.ending.status made.ending.frames) made.ending.status c.settle_alone.result before (g.W.Workspace.held c.settle_alone.new.workspace)) (sym c.requires)
    (c.settle_alone.ensures before bytes words.0 (c.run_both-rehearsed.ensures.held ∙ holds) words.1))
