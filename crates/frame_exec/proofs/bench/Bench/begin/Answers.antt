use Rattle.std.proofs.Common.{refl, sym, ap, ◌∙◌}
use Rattle.std.specs.Prelude.{Bool, false}
use Rattle.bus_pipes.specs.Pipes.{Pipes, empty_pipes}
use Rattle.app_suite.specs.Jobs.{jobs_of}
use Rattle.active_tables.specs.Tables.{lc_named}
use Rattle.frame_exec.proofs.Behind.{not_noted}
use Rattle.frame_exec.proofs.Frames.{stands_opened}
use Rattle.frame_exec.proofs.bench.Bench.begin.Goals as goal

pub returns : goal.returns
returns c = λ files loaded.
    let apps = c.in_ok-apps.ensures in
    let wires = c.in_ok-wires.ensures in
    stands_opened _ _ refl loaded.kept refl (not_noted false refl) c.in_ok-lines.ensures refl loaded.named apps.begin c.requires.given apps.ready.sc (apps.ready.md c.args.header.now.map c.requires.given.set.dwells)
    (wires.pipes ∙ ap (λ (watched : Bool). empty_pipes watched) (c.names_limit_checker-lc.ensures ∙ ap lc_named (c.files.ensures ∙ loaded.kept))) wires.log c.in_ok-memory.ensures

-- there are as many jobs as applications
pub invariant_of-result-clause-manned : goal.invariant_of-result-clause-manned
invariant_of-result-clause-manned c = c.in_ok-apps.ensures.jobs ∙ ap jobs_of (sym (ap (λ (pipes : Pipes). pipes.watched) c.in_ok-wires.ensures.pipes))

pub invariant_of-result-clause-there : goal.invariant_of-result-clause-there
invariant_of-result-clause-there c = c.in_ok-apps.ensures.there ∙ sym (ap (λ (pipes : Pipes). pipes.watched) c.in_ok-wires.ensures.pipes)
