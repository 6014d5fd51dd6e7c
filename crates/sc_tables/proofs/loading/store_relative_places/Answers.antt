use Rattle.std.proofs.Common.{true, false, ◌∙◌, arith}
use Rattle.std.proofs.lemmas.List.{length-set}
use Rattle.sc_tables.proofs.Stored.{no_relative_read, end_tested, next_relative_well, one_more_relative, all_relative_read}
use Rattle.sc_tables.proofs.loading.store_relative_places.Goals as goal

pub entries-init : goal.entries-init
entries-init c = record { places = c.requires.places; few = omega arith; read = no_relative_read c.args.payload.now }

pub bounds-places-count : goal.bounds-places-count
bounds-places-count c =
    let i = c.entries.invariant in
    let next = next_relative_well c.args.payload.now c.entries.places c.entries.count c.entries.at _ c.requires.well c.requires.payload i.places i.few i.read c.are_zeros.ensures c.entries-test.true in
    omega (arith, next.room)

pub relative_size-at-requires : goal.relative_size-at-requires
relative_size-at-requires c =
    let i = c.entries.invariant in
    let next = next_relative_well c.args.payload.now c.entries.places c.entries.count c.entries.at _ c.requires.well c.requires.payload i.places i.few i.read c.are_zeros.ensures c.entries-test.true in
    omega (arith, next.long)

pub overflow_add-at : goal.overflow_add-at
overflow_add-at c =
    let i = c.entries.invariant in
    let next = next_relative_well c.args.payload.now c.entries.places c.entries.count c.entries.at _ c.requires.well c.requires.payload i.places i.few i.read c.are_zeros.ensures c.entries-test.true in
    omega (arith, next.size, next.some, c.relative_size-at.ensures, c.requires.payload)

pub entries-smaller : goal.entries-smaller
entries-smaller c =
    let i = c.entries.invariant in
    let next = next_relative_well c.args.payload.now c.entries.places c.entries.count c.entries.at _ c.requires.well c.requires.payload i.places i.few i.read c.are_zeros.ensures c.entries-test.true in
    omega (arith, next.size, next.some, c.relative_size-at.ensures)

pub entries-preserved : goal.entries-preserved
entries-preserved c =
    let i = c.entries.invariant in
    let next = next_relative_well c.args.payload.now c.entries.places c.entries.count c.entries.at _ c.requires.well c.requires.payload i.places i.few i.read c.are_zeros.ensures c.entries-test.true in
    record {
      places = length-set c.entries.places c.entries.count _ ∙ i.places;
      few = omega (arith, next.room);
      read = one_more_relative c.args.payload.now c.entries.places c.entries.count _ _ i.places i.read next c.relative_size-at.ensures;
    }

pub returns-clause-stored : goal.returns-clause-stored
returns-clause-stored c =
    let i = c.entries.invariant in
    all_relative_read c.args.payload.now _ c.entries.at i.read (end_tested c.args.payload.now c.entries.at _ true c.are_zeros.ensures c.entries-test.false)
