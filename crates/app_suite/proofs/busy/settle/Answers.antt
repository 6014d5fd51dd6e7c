use Rattle.std.proofs.Common.{◌≡◌, ◌<◌, inr, length, get_or, refl, ◌∙◌, subst, arith}
use Rattle.std.proofs.lemmas.List.{get_or_read}
use Rattle.crew_board.proofs.Exchanges.{right_set}
use Rattle.app_suite.specs.declared.left.Left.{Left}
use Rattle.app_suite.specs.declared.wakeups.Wakeup.{Wakeup}
use Rattle.app_suite.specs.Jobs.{Leaves}
use Rattle.app_suite.proofs.busy.settle.Goals as goal

pub returns-clause-settled : goal.returns-clause-settled
returns-clause-settled c =
    let jobs = c.args.jobs.now in
    let job = c.args.job in
    let results = c.args.crew.now.results in
    let scratch = c.perform.new.scratch in
    let inside : job < length results = (let count = c.requires.results in let is_job = c.requires.job in omega arith) in
    let left = λ (t : Wakeup) (is : get_or jobs job t ≡ t).
    subst (λ (w : Wakeup). Leaves w.1 w.0.now scratch) (get_or_read jobs job c.index-jobs-job.result c.requires.job c.index-jobs-job.is t ∙ is) c.perform.ensures in
    inr (refl, right_set (λ (w : Wakeup) (left : Left). Leaves w.1 w.0.now left) jobs results job scratch inside left)
