use Rattle.std.proofs.Common.{◌≡◌, length, rules}
use Rattle.sc_tables.proofs.Sorting.{loaded}
use Rattle.sc_tables.proofs.loading.store_in_order.Goals as goal

pub returns-clause-ordered : goal.returns-clause-ordered
returns-clause-ordered c =
    let whole : length c.store_places-count.new.places ≡ 1000 = search rules in
    loaded c.args.payload.now c.store_places-count.new.places c.put_in_order.new.places c.store_places-count.result whole c.store_places-count.ensures.few c.store_places-count.ensures.stored c.put_in_order.ensures.moved c.put_in_order.ensures.sorted
