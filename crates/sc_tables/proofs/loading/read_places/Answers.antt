use Rattle.std.proofs.Common.{true, false, ◌∙◌, arith}
use Rattle.std.proofs.lemmas.List.{length-set}
use Rattle.sc_tables.proofs.Stored.{none_read, end_tested, next_is, one_more, all_read, fault_read}
use Rattle.sc_tables.proofs.loading.read_places.Goals as goal

pub entries-init : goal.entries-init
entries-init c = record { places = c.requires; few = omega arith; read = none_read c.args.payload.now }

pub returns-in-Some-clause-fault : goal.returns-in-Some-clause-fault
returns-in-Some-clause-fault c =
    let i = c.entries.invariant in
    fault_read c.args.payload.now c.entries.places c.entries.count c.entries.used c.entries.at _ c.in-Some.reason _ i.places i.few i.read
    (end_tested c.args.payload.now c.entries.at _ false c.are_zeros.ensures c.entries-test.true) (c.timed_reason.ensures _ i.read.flags) c.in-Some.is c.fault_behind.ensures.fault

pub be16-number-requires : goal.be16-number-requires
be16-number-requires c =
    let i = c.entries.invariant in
    let next = next_is c.args.payload.now c.entries.places c.entries.count c.entries.used c.entries.at _ _ i.places i.few i.read c.are_zeros.ensures c.entries-test.true (c.timed_reason.ensures _ i.read.flags) c.in_default.is in
    omega arith

pub be32-requires : goal.be32-requires
be32-requires c =
    let i = c.entries.invariant in
    let next = next_is c.args.payload.now c.entries.places c.entries.count c.entries.used c.entries.at _ _ i.places i.few i.read c.are_zeros.ensures c.entries-test.true (c.timed_reason.ensures _ i.read.flags) c.in_default.is in
    omega arith

pub bounds-places-count : goal.bounds-places-count
bounds-places-count c =
    let i = c.entries.invariant in
    let next = next_is c.args.payload.now c.entries.places c.entries.count c.entries.used c.entries.at _ _ i.places i.few i.read c.are_zeros.ensures c.entries-test.true (c.timed_reason.ensures _ i.read.flags) c.in_default.is in
    omega arith

pub bounds-used-number : goal.bounds-used-number
bounds-used-number c =
    let i = c.entries.invariant in
    let next = next_is c.args.payload.now c.entries.places c.entries.count c.entries.used c.entries.at _ _ i.places i.few i.read c.are_zeros.ensures c.entries-test.true (c.timed_reason.ensures _ i.read.flags) c.in_default.is in
    omega (arith, next.number, c.be16-number.ensures)

pub timed_size-at-requires : goal.timed_size-at-requires
timed_size-at-requires c =
    let i = c.entries.invariant in
    let next = next_is c.args.payload.now c.entries.places c.entries.count c.entries.used c.entries.at _ _ i.places i.few i.read c.are_zeros.ensures c.entries-test.true (c.timed_reason.ensures _ i.read.flags) c.in_default.is in
    omega arith

pub overflow_add-at : goal.overflow_add-at
overflow_add-at c =
    let i = c.entries.invariant in
    let next = next_is c.args.payload.now c.entries.places c.entries.count c.entries.used c.entries.at _ _ i.places i.few i.read c.are_zeros.ensures c.entries-test.true (c.timed_reason.ensures _ i.read.flags) c.in_default.is in
    omega (arith, next.size, next.some, next.few, next.far, c.timed_size-at.ensures)

pub entries-smaller : goal.entries-smaller
entries-smaller c =
    let i = c.entries.invariant in
    let next = next_is c.args.payload.now c.entries.places c.entries.count c.entries.used c.entries.at _ _ i.places i.few i.read c.are_zeros.ensures c.entries-test.true (c.timed_reason.ensures _ i.read.flags) c.in_default.is in
    omega (arith, next.size, next.some, next.few, next.far, c.timed_size-at.ensures)

pub entries-preserved : goal.entries-preserved
entries-preserved c =
    let i = c.entries.invariant in
    let next = next_is c.args.payload.now c.entries.places c.entries.count c.entries.used c.entries.at _ _ i.places i.few i.read c.are_zeros.ensures c.entries-test.true (c.timed_reason.ensures _ i.read.flags) c.in_default.is in
    record {
      places = length-set c.entries.places c.entries.count _ ∙ i.places;
      few = omega arith;
      read = one_more c.args.payload.now c.entries.places c.entries.count c.entries.used _ _ i.places i.read next c.be32.ensures c.be16-number.ensures c.timed_size-at.ensures;
    }

pub returns-clause-stored : goal.returns-clause-stored
returns-clause-stored c =
    let i = c.entries.invariant in
    all_read c.args.payload.now _ c.entries.used c.entries.at i.read (end_tested c.args.payload.now c.entries.at _ true c.are_zeros.ensures c.entries-test.false)
