-- Which telemetry gets sequence counts.
use Rattle.std.specs.Prelude.{ℕ, ◌==◌, Bool, true, List, [], ◌∷◌}
use Rattle.std.specs.List.{list_any}
use Rattle.packet_forms.specs.MessageIds.{event_id, hs_housekeeping, cs_housekeeping, cs_baseline, sc_housekeeping, mm_housekeeping, mm_peek, mm_dump, md_housekeeping, md_dwell, lc_housekeeping}
use Rattle.packet_forms.specs.Packets.{message_id}
use Rattle.bus_pipes.specs.declared.names.Out.{Out}
use Rattle.bus_pipes.specs.declared.names.Out.TheVariants.{Made, Stored, Reset, Restart, Delete}

-- the ids that get sequence counts: events, the housekeeping of HS, CS, SC, MM and MD, peek, dump, the four dwell tables, baseline, the
-- housekeeping of LC
abbrev pub counted_ids : List ℕ
counted_ids =
    event_id ∷ hs_housekeeping ∷ cs_housekeeping ∷ sc_housekeeping ∷ mm_housekeeping ∷ md_housekeeping ∷ mm_peek ∷ mm_dump
    ∷ md_dwell 1 ∷ md_dwell 2 ∷ md_dwell 3 ∷ md_dwell 4 ∷ cs_baseline ∷ lc_housekeeping ∷ []

-- an id that gets sequence counts
unfoldable pub is_counted : ℕ → Bool
is_counted id = list_any (λ counted. counted == id) counted_ids

-- an item that doesn't make a packet of another id
abbrev pub is_item_counted : Out → Bool
is_item_counted (Made p) = is_counted (message_id p)
is_item_counted (Stored p) = true
is_item_counted Reset = true
is_item_counted (Restart name) = true
is_item_counted (Delete name) = true
