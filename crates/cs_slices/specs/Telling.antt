-- The event of a miscompare among what CS sends.
use Rattle.std.specs.Prelude.{◌==◌, Bool, false, ◌&&◌}
use Rattle.packet_forms.specs.MessageIds.{event_id}
use Rattle.packet_forms.specs.Numbers.{be16_at}
use Rattle.packet_forms.specs.Packets.{message_id}
use Rattle.bus_pipes.specs.declared.names.Out.{Out}
use Rattle.bus_pipes.specs.declared.names.Out.TheVariants.{Made, Stored, Reset, Restart, Delete}
use Rattle.cs_slices.specs.Messages.{miscompare_event}

-- Whether an item is an event, with this id and type 3, error: they stand behind its header and its sender's name.
abbrev pub tells_miscompare : Out → Bool
tells_miscompare (Made p) = (message_id p == event_id) && ((be16_at p 32 == miscompare_event) && (be16_at p 34 == 3))
tells_miscompare (Stored p) = false
tells_miscompare Reset = false
tells_miscompare (Restart name) = false
tells_miscompare (Delete name) = false
