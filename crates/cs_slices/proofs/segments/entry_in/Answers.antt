use Rattle.cs_slices.specs.Tables.{blank_segment}
use Rattle.cs_slices.proofs.Places.{entry_first, entry_second}
use Rattle.cs_slices.proofs.segments.entry_in.Goals as goal

pub returns-then-place-lt16 : goal.returns-then-place-lt16
returns-then-place-lt16 c = rw c.entries-first.ensures.entries (entry_first c.args.eeprom.now c.args.memory.now c.args.place blank_segment c.entries-first.ensures.whole c.if-place-lt16.true)

pub returns : goal.returns
returns c = rw c.entries-second.ensures.entries (entry_second c.args.eeprom.now c.args.memory.now c.args.place blank_segment c.entries-second.ensures.whole c.if-place-lt16.false c.requires)
