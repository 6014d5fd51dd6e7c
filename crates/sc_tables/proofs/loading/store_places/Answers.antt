use Rattle.std.proofs.Common.{true, false, replicate, set, ◌∙◌, arith}
use Rattle.std.proofs.lemmas.List.{length-set}
use Rattle.sc_tables.proofs.Stored.{none_read, end_tested, next_well, one_more, all_read}
use Rattle.sc_tables.proofs.loading.store_places.Goals as goal

pub entries-init : goal.entries-init
entries-init c = record { places = c.requires.places; few = omega arith; read = (replicate 1001 false, none_read c.args.payload.now) }

pub be16-requires : goal.be16-requires
be16-requires c =
    let i = c.entries.invariant in
    let next = next_well c.args.payload.now c.entries.places c.entries.count i.read.0 c.entries.at _ c.requires.well i.places i.few i.read.1 c.are_zeros.ensures c.entries-test.true in
    omega (arith, next.long)

pub be32-requires : goal.be32-requires
be32-requires c =
    let i = c.entries.invariant in
    let next = next_well c.args.payload.now c.entries.places c.entries.count i.read.0 c.entries.at _ c.requires.well i.places i.few i.read.1 c.are_zeros.ensures c.entries-test.true in
    omega (arith, next.long)

pub bounds-places-count : goal.bounds-places-count
bounds-places-count c =
    let i = c.entries.invariant in
    let next = next_well c.args.payload.now c.entries.places c.entries.count i.read.0 c.entries.at _ c.requires.well i.places i.few i.read.1 c.are_zeros.ensures c.entries-test.true in
    omega (arith, next.room)

pub timed_size-at-requires : goal.timed_size-at-requires
timed_size-at-requires c =
    let i = c.entries.invariant in
    let next = next_well c.args.payload.now c.entries.places c.entries.count i.read.0 c.entries.at _ c.requires.well i.places i.few i.read.1 c.are_zeros.ensures c.entries-test.true in
    omega (arith, next.long)

pub overflow_add-at : goal.overflow_add-at
overflow_add-at c =
    let i = c.entries.invariant in
    let next = next_well c.args.payload.now c.entries.places c.entries.count i.read.0 c.entries.at _ c.requires.well i.places i.few i.read.1 c.are_zeros.ensures c.entries-test.true in
    omega (arith, next.size, next.some, next.few, next.far, c.timed_size-at.ensures)

pub entries-smaller : goal.entries-smaller
entries-smaller c =
    let i = c.entries.invariant in
    let next = next_well c.args.payload.now c.entries.places c.entries.count i.read.0 c.entries.at _ c.requires.well i.places i.few i.read.1 c.are_zeros.ensures c.entries-test.true in
    omega (arith, next.size, next.some, next.few, next.far, c.timed_size-at.ensures)

pub entries-preserved : goal.entries-preserved
entries-preserved c =
    let i = c.entries.invariant in
    let next = next_well c.args.payload.now c.entries.places c.entries.count i.read.0 c.entries.at _ c.requires.well i.places i.few i.read.1 c.are_zeros.ensures c.entries-test.true in
    record {
      places = length-set c.entries.places c.entries.count _ ∙ i.places;
      few = omega (arith, next.room);
      read = (set i.read.0 c.be16.result true, one_more c.args.payload.now c.entries.places c.entries.count i.read.0 _ _ i.places i.read.1 next c.be32.ensures c.be16.ensures c.timed_size-at.ensures);
    }

pub returns-clause-stored : goal.returns-clause-stored
returns-clause-stored c =
    let i = c.entries.invariant in
    all_read c.args.payload.now _ i.read.0 c.entries.at i.read.1 (end_tested c.args.payload.now c.entries.at _ true c.are_zeros.ensures c.entries-test.false)
