use Rattle.std.proofs.Common.{◌≡◌, ◌∙◌, ◌++◌, ◌∷◌, [], List, ap, sym, true, false, ne_eqb, eq-eqb}
use Rattle.packet_forms.specs.Crc.{crc_of}
use Rattle.memory_window.specs.Window.{seen}
use Rattle.cs_slices.specs.Tables.{pair_of, entry_in}
use Rattle.cs_slices.specs.Happenings.{Slice, Happening, slices_among, since_slice, slices_since}
use Rattle.cs_slices.specs.Orders.{table_of}
use Rattle.cs_slices.specs.Slices.{offset_at, slice_from, entry_bytes}
use Rattle.cs_slices.specs.Passes.{pass_bytes}
use Rattle.cs_slices.specs.State.{DutyStands}
use Rattle.cs_slices.specs.declared.segments.Segment.{Segment}
use Rattle.cs_slices.proofs.Switching.{switches_read}
use Rattle.cs_slices.proofs.Tallying.{tally_rests}
use Rattle.cs_slices.proofs.Slicing.{IsRead, slice_read, items_quiet, items_found, quiet_before_end}
use Rattle.cs_slices.proofs.step.read_slice.Goals as goal
use Rattle.cs_slices.proofs.step.read_slice.Goals.{Then-not-judge, After-put_event}

quiet_slice : Then-not-judge → List Happening → Slice
quiet_slice c happened = slice_from (seen c.args.window) (entry_in (pair_of c.args.eeprom.now c.args.memory.now) c.args.place) c.args.place (offset_at c.args.place (slices_among happened) (since_slice happened))

quiet_read : (c : Then-not-judge) (happened : List Happening) → DutyStands (pair_of c.args.eeprom.now c.args.memory.now) happened c.args.duty.now
    → IsRead (quiet_slice c happened) c.args.place c.offset_at-from.result c.slice_size-size.result c.entry_in-segment.result.len c.part-bytes.result.now
unfolding quiet_slice
quiet_read c happened stood =
    slice_read (seen c.args.window) (entry_in (pair_of c.args.eeprom.now c.args.memory.now) c.args.place) c.args.place (offset_at c.args.place (slices_among happened) (since_slice happened))
    c.offset_at-from.result c.slice_size-size.result c.entry_in-segment.result.len c.entry_bytes.result.now c.part-bytes.result.now
    (c.offset_at-from.ensures happened stood.passing) (ap (λ (e : Segment). e.len) c.entry_in-segment.ensures) c.slice_size-size.ensures.size
    (c.entry_bytes.ensures ∙ ap (entry_bytes (seen c.args.window)) c.entry_in-segment.ensures) c.part-bytes.ensures

quiet_check : (c : Then-not-judge) (happened : List Happening) → DutyStands (pair_of c.args.eeprom.now c.args.memory.now) happened c.args.duty.now
    → c.check_after-check.result ≡ crc_of 0 (pass_bytes c.args.place (slices_since (table_of c.args.place) happened ++ quiet_slice c happened ∷ []))
quiet_check c happened stood =
    let read = quiet_read c happened stood in
    c.check_after-check.ensures happened (quiet_slice c happened) stood.passing read.place read.from (c.offset_at-from.ensures happened stood.passing) read.bytes

found_slice : After-put_event → List Happening → Slice
found_slice c happened = slice_from (seen c.args.window) (entry_in (pair_of c.args.eeprom.now c.args.memory.now) c.args.place) c.args.place (offset_at c.args.place (slices_among happened) (since_slice happened))

found_read : (c : After-put_event) (happened : List Happening) → DutyStands (pair_of c.args.eeprom.now c.args.memory.now) happened c.args.duty.now
    → IsRead (found_slice c happened) c.args.place c.offset_at-from.result c.slice_size-size.result c.entry_in-segment.result.len c.part-bytes.result.now
unfolding found_slice
found_read c happened stood =
    slice_read (seen c.args.window) (entry_in (pair_of c.args.eeprom.now c.args.memory.now) c.args.place) c.args.place (offset_at c.args.place (slices_among happened) (since_slice happened))
    c.offset_at-from.result c.slice_size-size.result c.entry_in-segment.result.len c.entry_bytes.result.now c.part-bytes.result.now
    (c.offset_at-from.ensures happened stood.passing) (ap (λ (e : Segment). e.len) c.entry_in-segment.ensures) c.slice_size-size.ensures.size
    (c.entry_bytes.ensures ∙ ap (entry_bytes (seen c.args.window)) c.entry_in-segment.ensures) c.part-bytes.ensures

found_check : (c : After-put_event) (happened : List Happening) → DutyStands (pair_of c.args.eeprom.now c.args.memory.now) happened c.args.duty.now
    → c.check_after-check.result ≡ crc_of 0 (pass_bytes c.args.place (slices_since (table_of c.args.place) happened ++ found_slice c happened ∷ []))
found_check c happened stood =
    let read = found_read c happened stood in
    c.check_after-check.ensures happened (found_slice c happened) stood.passing read.place read.from (c.offset_at-from.ensures happened stood.passing) read.bytes

pub returns-then-from-size-clause-stands : goal.returns-then-from-size-clause-stands
returns-then-from-size-clause-stands c = λ happened stood.
    let entry = entry_in (pair_of c.args.eeprom.now c.args.memory.now) c.args.place in
    let s = slice_from (seen c.args.window) entry c.args.place (offset_at c.args.place (slices_among happened) (since_slice happened)) in
    let begins = c.offset_at-from.ensures happened stood.passing in
    let read : IsRead s c.args.place c.offset_at-from.result c.slice_size-size.result c.entry_in-segment.result.len c.part-bytes.result.now =
    slice_read (seen c.args.window) entry c.args.place (offset_at c.args.place (slices_among happened) (since_slice happened))
    c.offset_at-from.result c.slice_size-size.result c.entry_in-segment.result.len c.entry_bytes.result.now c.part-bytes.result.now
    begins (ap (λ (e : Segment). e.len) c.entry_in-segment.ensures) c.slice_size-size.ensures.size
    (c.entry_bytes.ensures ∙ ap (entry_bytes (seen c.args.window)) c.entry_in-segment.ensures) c.part-bytes.ensures in
    let goes : s.ends ≡ false = read.ends ∙ ne_eqb _ _ c.if-from-size.true in
    record {
      switches = switches_read (pair_of c.args.eeprom.now c.args.memory.now) happened _ c.args.duty.now.switches stood.switches;
      passing = c.begun-duty.ensures happened s read.place read.till goes (c.check_after-check.ensures happened s stood.passing read.place read.from begins read.bytes);
      tally = tally_rests happened s c.args.duty.now.tally stood.tally goes;
    }

pub returns-then-from-size-clause-items : goal.returns-then-from-size-clause-items
returns-then-from-size-clause-items c = λ happened stood.
    let entry = entry_in (pair_of c.args.eeprom.now c.args.memory.now) c.args.place in
    let s = slice_from (seen c.args.window) entry c.args.place (offset_at c.args.place (slices_among happened) (since_slice happened)) in
    let begins = c.offset_at-from.ensures happened stood.passing in
    let read : IsRead s c.args.place c.offset_at-from.result c.slice_size-size.result c.entry_in-segment.result.len c.part-bytes.result.now =
    slice_read (seen c.args.window) entry c.args.place (offset_at c.args.place (slices_among happened) (since_slice happened))
    c.offset_at-from.result c.slice_size-size.result c.entry_in-segment.result.len c.entry_bytes.result.now c.part-bytes.result.now
    begins (ap (λ (e : Segment). e.len) c.entry_in-segment.ensures) c.slice_size-size.ensures.size
    (c.entry_bytes.ensures ∙ ap (entry_bytes (seen c.args.window)) c.entry_in-segment.ensures) c.part-bytes.ensures in
    let goes : s.ends ≡ false = read.ends ∙ ne_eqb _ _ c.if-from-size.true in
    items_quiet c.args.now c.args.out.now happened s (quiet_before_end happened s goes)

pub returns-then-not-judge-clause-stands : goal.returns-then-not-judge-clause-stands
unfolding quiet_slice
returns-then-not-judge-clause-stands c = λ happened stood.
    let read = quiet_read c happened stood in
    let ends : (quiet_slice c happened).ends ≡ true = read.ends ∙ eq-eqb _ _ c.if-from-size.false in
    record {
      switches = switches_read (pair_of c.args.eeprom.now c.args.memory.now) happened _ c.args.duty.now.switches stood.switches;
      passing = c.behind-duty.ensures happened (quiet_slice c happened) read.place ends;
      tally = c.judge.ensures.stands happened (quiet_slice c happened) stood.tally read.place ends (quiet_check c happened stood);
    }

pub returns-then-not-judge-clause-items : goal.returns-then-not-judge-clause-items
unfolding quiet_slice
returns-then-not-judge-clause-items c = λ happened stood.
    let read = quiet_read c happened stood in
    let ends : (quiet_slice c happened).ends ≡ true = read.ends ∙ eq-eqb _ _ c.if-from-size.false in
    items_quiet c.args.now c.args.out.now happened (quiet_slice c happened)
    (sym (c.judge.ensures.found happened (quiet_slice c happened) stood.tally read.place ends (quiet_check c happened stood)) ∙ c.if-not-judge.true)

pub returns-clause-stands : goal.returns-clause-stands
unfolding found_slice
returns-clause-stands c = λ happened stood.
    let read = found_read c happened stood in
    let ends : (found_slice c happened).ends ≡ true = read.ends ∙ eq-eqb _ _ c.if-from-size.false in
    record {
      switches = switches_read (pair_of c.args.eeprom.now c.args.memory.now) happened _ c.args.duty.now.switches stood.switches;
      passing = c.behind-duty.ensures happened (found_slice c happened) read.place ends;
      tally = c.judge.ensures.stands happened (found_slice c happened) stood.tally read.place ends (found_check c happened stood);
    }

pub returns-clause-items : goal.returns-clause-items
unfolding found_slice
returns-clause-items c = λ happened stood.
    let read = found_read c happened stood in
    let ends : (found_slice c happened).ends ≡ true = read.ends ∙ eq-eqb _ _ c.if-from-size.false in
    c.put_event.ensures.items
    ∙ items_found c.args.now c.args.out.now happened (found_slice c happened)
    (sym (c.judge.ensures.found happened (found_slice c happened) stood.tally read.place ends (found_check c happened stood)) ∙ c.if-not-judge.false)
