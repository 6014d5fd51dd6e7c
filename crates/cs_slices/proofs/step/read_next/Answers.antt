use Rattle.std.proofs.Common.{◌∙◌, sym, ap}
use Rattle.std.specs.Prelude.{Option}
use Rattle.memory_window.specs.Window.{seen}
use Rattle.bus_pipes.specs.Held.{adding}
use Rattle.bus_pipes.proofs.Deliveries.{adding_none}
use Rattle.cs_slices.specs.Tables.{pair_of}
use Rattle.cs_slices.specs.Happenings.{Slice}
use Rattle.cs_slices.specs.Answers.{slice_items}
use Rattle.cs_slices.proofs.Slicing.{next_none, next_some, stands_unread, stands_read}
use Rattle.cs_slices.proofs.step.read_next.Goals as goal

pub returns-in-None-clause-stands : goal.returns-in-None-clause-stands
returns-in-None-clause-stands c = λ happened stood.
    let tables = pair_of c.args.eeprom.now c.args.memory.now in
    stands_unread tables happened _ _ stood (next_none tables happened (seen c.args.window) (c.in-None.ensures.place tables happened stood.switches stood.passing))

pub returns-in-None-clause-items : goal.returns-in-None-clause-items
returns-in-None-clause-items c = λ happened stood.
    let tables = pair_of c.args.eeprom.now c.args.memory.now in
    sym (
    ap (λ (next : Option Slice). adding c.args.out.now (slice_items c.args.now happened next)) (next_none tables happened (seen c.args.window) (c.in-None.ensures.place tables happened stood.switches stood.passing))
    ∙ adding_none c.args.out.now)

pub returns-in-Some-clause-stands : goal.returns-in-Some-clause-stands
returns-in-Some-clause-stands c = λ happened stood.
    let tables = pair_of c.args.eeprom.now c.args.memory.now in
    stands_read tables happened _ _ _ (c.read_slice.ensures.stands happened stood)
    (next_some tables happened (seen c.args.window) c.in-Some.place (c.in-Some.ensures.place tables happened stood.switches stood.passing))

pub returns-in-Some-clause-items : goal.returns-in-Some-clause-items
returns-in-Some-clause-items c = λ happened stood.
    let tables = pair_of c.args.eeprom.now c.args.memory.now in
    c.read_slice.ensures.items happened stood
    ∙ ap (λ (next : Option Slice). adding c.args.out.now (slice_items c.args.now happened next)) (sym (next_some tables happened (seen c.args.window) c.in-Some.place (c.in-Some.ensures.place tables happened stood.switches stood.passing)))
