-- Health and Safety's housekeeping.
use Rattle.std.specs.Prelude.{ℕ, Bool, if◌then◌else◌, List, [], ◌∷◌, ◌++◌, map, slice_index_or, Option, Some, None, unwrap_or}
use Rattle.std.specs.List.{flat_map}
use Rattle.histories.specs.Masks.{bits_of}
use Rattle.packet_forms.specs.MessageIds.{hs_housekeeping}
use Rattle.packet_forms.specs.Numbers.{be16_bytes, be32_bytes}
use Rattle.packet_forms.specs.Built.{telemetry_of}
use Rattle.packet_forms.specs.declared.name.Counter.{Counter}
use Rattle.bus_pipes.specs.declared.names.Counts.{Counts}
use Rattle.hs_tables.specs.Counters.{blank_row, entry_of}
use Rattle.hs_tables.specs.declared.apps.AppRow.{AppRow}
use Rattle.hs_tables.specs.declared.counters.CountRow.{CountRow}
use Rattle.hs_actions.specs.Outcomes.{outcomes_in, made_of, max_of, sent_of}
use Rattle.hs_monitors.specs.Histories.{Input, HsEntry, Setup, tables_after}
use Rattle.hs_monitors.specs.Orders.{orders_of, is_on, is_listening}
use Rattle.hs_monitors.specs.Watches.{watch_at}
use Rattle.hs_monitors.specs.Acting.{counter_in}
use Rattle.hs_monitors.specs.Monitors.{is_watching}
use Rattle.hs_monitors.specs.Attempts.{past_in}
use Rattle.hs_monitors.specs.declared.instructions.Instruction.{Instruction}

-- A flag as a byte.
abbrev pub flag_of : Bool → ℕ
flag_of on = if on then 1 else 0

-- The mask of the application monitors that watch: bit i is the entry in place i.
unfoldable pub watching_bits : List AppRow → List (List Counter) → ℕ
watching_bits rows watch = bits_of (map (is_watching watch) rows)

-- The counter that is shown of an entry of the execution counters: all bits set where it isn't used or its name has none in the frame.
abbrev pub shown_of : List Counter → Option (List ℕ) → ℕ
shown_of counters None = 0xFFFFFFFF
shown_of counters (Some name) = unwrap_or (counter_in counters name) 0xFFFFFFFF

-- The row in a place of the execution counters, from 0.
abbrev pub count_at : List CountRow → ℕ → CountRow
count_at rows place = slice_index_or rows place blank_row

abbrev pub shown_bytes : List Counter → CountRow → List ℕ
shown_bytes counters row = be32_bytes (shown_of counters (entry_of row))

-- What is told of the resets and the message actions: the resets made, their maximum, the message actions sent, 0.
abbrev pub actions_bytes : ℕ → ℕ → ℕ → List ℕ
actions_bytes made max sent = be16_bytes made ++ be16_bytes max ++ be16_bytes sent ++ be16_bytes 0

-- The housekeeping packet: both counts, whether both monitorings are on, the resets and message actions, the watching monitors, and the 32 counters.
unfoldable pub housekeeping_of : ℕ → Counts → Bool → Bool → ℕ → ℕ → ℕ → ℕ → List CountRow → List Counter → List ℕ
housekeeping_of time counts monitoring listening made max sent watching rows counters =
    telemetry_of hs_housekeeping time ((counts.accepted ∷ counts.errors ∷ flag_of monitoring ∷ flag_of listening ∷ []) ++ actions_bytes made max sent ++ be32_bytes watching ++ flat_map (shown_bytes counters) rows)

-- The housekeeping packet at a place in a wakeup, behind what was ordered in it so far.
unfoldable pub housekeeping_at : Setup → List HsEntry → Input → Counts → List Instruction → List ℕ
housekeeping_at setup history input counts orders =
    let earlier = outcomes_in setup.tables.acts (past_in setup history orders) in
    housekeeping_of input.time counts (is_on (orders_of history ++ orders)) (is_listening (orders_of history ++ orders))
    (made_of (past_in setup history orders).begins earlier) (max_of (past_in setup history orders).begins earlier) (sent_of earlier)
    (watching_bits (tables_after setup history).apps (watch_at history orders)) (tables_after setup history).counts input.seen.counters
