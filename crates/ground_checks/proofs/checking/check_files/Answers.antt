use Rattle.std.proofs.Common.{Option, option_map, ap, ◌∙◌}
use Rattle.ground_files.specs.Workspaces.{Held, input_taken}
use Rattle.ground_checks.proofs.CheckedLemmas.{checks_plain, checks_mapped, checks_unmapped}
use Rattle.ground_checks.proofs.checking.check_files.Goals as goal

pub returns-in-Ok : goal.returns-in-Ok
returns-in-Ok g c = λ before told.
    checks_mapped c.args.check.now c.in-Some.path c.in-Ok.known.map c.check_with.result before (g.W.Workspace.held c.read_map.new.workspace) (g.W.Workspace.held c.check_with.new.workspace) c.in-Some.is
    (c.in-Ok.ensures.known before told) (c.read_map.ensures.held ∙ ap (λ (o : Option Held). option_map (input_taken c.in-Some.path.now) o) told) c.check_with.ensures

pub returns-in-Err : goal.returns-in-Err
returns-in-Err g c = λ before told.
    checks_unmapped c.args.check.now c.in-Some.path c.in-Err.status c.check_all.result before (g.W.Workspace.held c.read_map.new.workspace) (g.W.Workspace.held c.check_all.new.workspace) c.in-Some.is
    c.in-Err.ensures.status (λ refused. c.in-Err.ensures.refused refused before told) (λ refused. c.in-Err.ensures.scenario refused before told) c.in-Err.ensures.others (c.read_map.ensures.held ∙ ap (λ (o : Option Held). option_map (input_taken c.in-Some.path.now) o) told) c.check_all.ensures

pub returns-in-None : goal.returns-in-None
returns-in-None g c = λ before told.
    checks_plain c.args.check.now c.check_all-in-None.result before (g.W.Workspace.held c.check_all-in-None.new.workspace) c.in-None.is (c.check_all-in-None.ensures before told)
