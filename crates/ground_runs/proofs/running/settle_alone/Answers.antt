use Rattle.std.proofs.Common.{Bool, subst}
use Rattle.std.specs.Prelude.{None}
use Rattle.ground_runs.specs.KeptLogs.{SettledAs}
use Rattle.ground_runs.proofs.SettlingLemmas.{settled_alone, whole_told}
use Rattle.ground_runs.proofs.running.settle_alone.Goals as goal

pub returns : goal.returns
returns g c = λ before bytes text holds words.
    let held = g.W.Workspace.held in
    let ended = c.args.ending.status in
    let kept = c.is_whole-is_kept.result in
    subst (λ (k : Bool). SettledAs None bytes c.args.output.now text k ended c.status_made.result before (held c.settle-settled.new.self)) c.is_whole-is_kept.ensures
    (settled_alone bytes c.args.output.now text kept ended c.status_made.result c.settle-settled.result before (held c.args.workspace.now) (held c.settle-settled.new.self) holds
    (whole_told c.settle-settled.result (g.W.Draft.Write.contents c.args.words) text _ words c.settle-settled.ensures.held)
    c.settle-settled.ensures.dropped
    c.status_made.ensures)
