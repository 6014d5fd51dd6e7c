use Rattle.std.proofs.Common.{rules}
use Rattle.std.proofs.lemmas.List.Sorted.{answers_always, IsNonDecreasingBy-from_sort}
use Rattle.std.proofs.lemmas.Result.{on_ok_weaker}
use Rattle.timed_plans.proofs.SortLemmas.{frame_key}
use Rattle.timed_plans.proofs.scheduled.sort_lines.Goals as goal

pub returns-clause-rising : goal.returns-clause-rising
returns-clause-rising c =
    let keys = answers_always _ _ _ (λ f a r next called. search rules) in
    on_ok_weaker c.sort_by_key.result (λ sorted. IsNonDecreasingBy-from_sort frame_key _ (sorted frame_key keys)) c.sort_by_key.ensures.sorted

pub returns-clause-stable : goal.returns-clause-stable
returns-clause-stable c =
    let keys = answers_always _ _ _ (λ f a r next called. search rules) in
    on_ok_weaker c.sort_by_key.result (λ sorted. c.sort_by_key.ensures.stable frame_key keys) c.sort_by_key.ensures.sorted
