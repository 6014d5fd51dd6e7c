use Rattle.std.proofs.Common.{◌≡◌, length, ap, rules}
use Rattle.sc_tables.specs.Grammar.{fault_in}
use Rattle.sc_tables.specs.Absolute.{ats_fault_of}
use Rattle.sc_tables.proofs.Sorting.{loaded}
use Rattle.sc_tables.proofs.loading.read_in_order.Goals as goal

pub returns-in-Err-clause-fault : goal.returns-in-Err-clause-fault
unfolding ats_fault_of
returns-in-Err-clause-fault c = ap fault_in c.in-Err.ensures.fault

pub returns-in-Ok-clause-fault : goal.returns-in-Ok-clause-fault
unfolding ats_fault_of
returns-in-Ok-clause-fault c = ap fault_in c.in-Ok.ensures.stored.stored

pub returns-in-Ok-clause-ordered : goal.returns-in-Ok-clause-ordered
returns-in-Ok-clause-ordered c =
    let whole : length c.read_places.new.places ≡ 1000 = search rules in
    loaded c.args.payload.now c.read_places.new.places c.put_in_order.new.places c.in-Ok.count whole c.in-Ok.ensures.few c.in-Ok.ensures.stored c.put_in_order.ensures.moved c.put_in_order.ensures.sorted
