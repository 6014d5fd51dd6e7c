use Rattle.std.proofs.Common.{Bool, ap, refl, subst, ◌∙◌}
use Rattle.std.specs.Prelude.{Some}
use Rattle.ground_runs.specs.KeptLogs.{SettledAs}
use Rattle.ground_runs.proofs.SettlingLemmas.{settled_whole, settled_first, never_kept}
use Rattle.ground_runs.proofs.running.settle_both.Goals as goal

pub returns-in-Err-settle : goal.returns-in-Err-settle
returns-in-Err-settle g c = λ before bytes text holds full words.
    let contents = g.W.Draft.Write.contents in
    let held = g.W.Workspace.held in
    let ended = c.args.rehearsed.ending.status in
    let status = c.tell_unwritten-in-Err-settle.result in
    subst (λ (k : Bool). SettledAs (Some c.args.log) bytes c.args.output.now text k ended status before (held c.settle-2.new.self)) c.is_whole-is_kept.ensures
    (settled_first c.args.log bytes c.args.output.now text c.is_whole-is_kept.result ended status before (held c.args.workspace.now) (held c.settle.new.self) (held c.settle-2.new.self) holds
    (c.in_default.ensures.held bytes (ap contents c.into_draft.ensures ∙ full))
    (c.in-Err-settle.ensures.dropped (never_kept c.is_whole-is_kept.result))
    c.tell_unwritten-in-Err-settle.ensures)

pub returns : goal.returns
returns g c = λ before bytes text holds full words.
    let contents = g.W.Draft.Write.contents in
    let held = g.W.Workspace.held in
    let ended = c.args.rehearsed.ending.status in
    subst (λ (k : Bool). SettledAs (Some c.args.log) bytes c.args.output.now text k ended ended before (held c.settle-2.new.self)) c.is_whole-is_kept.ensures
    (settled_whole c.args.log bytes c.args.output.now text c.is_whole-is_kept.result ended ended before (held c.args.workspace.now) (held c.settle.new.self) (held c.settle-2.new.self) holds
    (c.in_default.ensures.held bytes (ap contents c.into_draft.ensures ∙ full))
    (c.in_default-settle.ensures.held text words)
    refl)
