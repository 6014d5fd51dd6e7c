use Rattle.std.proofs.Common.{◌≡◌, ℕ, length, refl, ◌∙◌, subst, arith}
use Rattle.crew_board.specs.Work.{AreDraws}
use Rattle.crew_board.proofs.Times.{rises_few}
use Rattle.app_suite.specs.declared.left.Left.{Left}
use Rattle.app_suite.specs.declared.wakeups.Wakeup.{Wakeup}
use Rattle.app_suite.specs.Jobs.{Leaves}
use Rattle.app_suite.proofs.Choosing.{settled_none, settled_more}
use Rattle.app_suite.proofs.busy.settle_all.Goals as goal

pub settle-requires : goal.settle-requires
settle-requires c =
    let inv = c.loop-job.invariant in
    record {
      job = c.loop-job-test.true;
      results = inv.results ∙ c.requires.results;
      room = (let draws = inv.settled.draws in
          let few = rises_few c.loop-job.busy.items c.loop-job.job draws.0 (λ k d h. draws.1 k d h) in
          let most = c.requires.few in
          let test = c.loop-job-test.true in omega arith);
    }

pub loop-job-init : goal.loop-job-init
loop-job-init c = record {
  jobs = refl;
  results = refl;
  settled = settled_none (λ (w : Wakeup) (left : Left). Leaves w.1 w.0.now left) c.args.jobs.now c.new-busy.result.items c.args.crew.now.results c.new-busy.ensures;
}

pub loop-job-preserved : goal.loop-job-preserved
loop-job-preserved c =
    let inv = c.loop-job.invariant in
    let call = c.settle.ensures in
    record {
      jobs = call.jobs ∙ inv.jobs;
      results = call.results ∙ inv.results;
      settled = settled_more (λ (w : Wakeup) (left : Left). Leaves w.1 w.0.now left) c.args.jobs.now c.loop-job.job c.loop-job.busy.items c.settle.new.busy.items c.loop-job.crew.results c.settle.new.crew.results
          inv.settled call.others call.settled;
    }

pub returns : goal.returns
returns c =
    let inv = c.loop-job.invariant in
    let end : c.loop-job.job ≡ length c.args.jobs.now = (let most = c.loop-job.auto.job-end in let test = c.loop-job-test.false in omega arith) in
    record {
      jobs = inv.jobs;
      results = inv.results;
      busy = subst (λ (n : ℕ). AreDraws n c.loop-job.busy.items) end inv.settled.draws;
      settled = λ job h. inv.settled.right job (omega arith);
    }
