use Rattle.std.proofs.Common.{ap, ◌∙◌}
use Rattle.bus_pipes.specs.Held.{Held}
use Rattle.bus_pipes.specs.declared.names.Out.{Out}
use Rattle.frame_exec.proofs.applications.Applications.open.Goals as goal

pub returns-clause-begin : goal.returns-clause-begin
returns-clause-begin c =
    let slots = c.in_ok-slots.ensures in
    record { hs = slots.hs; cs = slots.cs; sc = slots.sc; mm = slots.mm; md = slots.md; lc = slots.lc }

pub returns-clause-ready : goal.returns-clause-ready
returns-clause-ready c = record { sc = c.in_ok-slots.ensures.ready; md = c.in_ok-slots.ensures.given }

pub returns-clause-jobs : goal.returns-clause-jobs
returns-clause-jobs c = c.in_ok-open-2.ensures.jobs ∙ c.jobs_of.ensures.jobs

pub returns-clause-room : goal.returns-clause-room
returns-clause-room c = ap (λ (held : Held Out). held.room) c.in_ok-open.ensures
