use Rattle.std.proofs.Common.{◌<◌, ℕ, List, length, subst, arith}
use Rattle.crew_board.specs.Work.{AreDone, StayBut}
use Rattle.app_suite.specs.declared.left.Left.{Left}
use Rattle.app_suite.specs.declared.wakeups.Wakeup.{Wakeup}
use Rattle.app_suite.specs.Jobs.{Leaves}
use Rattle.app_suite.proofs.Choosing.{all_right}
use Rattle.app_suite.proofs.jobs.run_busy.Goals as goal

pub returns-clause-left : goal.returns-clause-left
returns-clause-left g c = λ job h.
    let jobs = c.args.jobs.now in
    let settled = c.settle_all-busy.ensures in
    let before = c.settle_all-busy.new.crew.results in
    let now = c.run_chosen.new.self.results in
    let busy = c.settle_all-busy.result.items in
    let some_ : 0 < length before = (let count = settled.results in let ran = c.has_run.ensures c.if-not-has_run.false in let all = c.requires.jobs in omega arith) in
    let done = subst (AreDone (λ (w : Wakeup) (left : Left). Leaves w.1 w.0.now left) jobs now) c.as_slice.ensures.value c.run_chosen.ensures.results.1 in
    let stay = subst (λ (l : List ℕ). StayBut l before now) c.as_slice.ensures.value (c.run_chosen.ensures.others some_) in
    all_right (λ (w : Wakeup) (left : Left). Leaves w.1 w.0.now left) jobs (length jobs) busy before now settled.settled done stay job h
