use Rattle.std.proofs.Common.{rules}
use Rattle.std.proofs.lemmas.List.Sorted.{answers_always}
use Rattle.sc_tables.proofs.Sorting.{key_of, sorted_by_place}
use Rattle.sc_tables.proofs.loading.put_in_order.Goals as goal

pub returns-clause-sorted : goal.returns-clause-sorted
returns-clause-sorted c =
    sorted_by_place c.sort_unstable_by_key.new.self (c.sort_unstable_by_key.ensures.sorted key_of (answers_always _ _ _ (λ f a r q k. search rules)))
