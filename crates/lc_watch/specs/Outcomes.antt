-- What a watchpoint makes of packets.
use Rattle.std.specs.Prelude.{◌≡◌, ◌<◌, ℕ, ◌+◌, ◌==◌, Bool, true, false, not, nat_lt, nat_le, bit_and, if◌then◌else◌, List, length, slice_index, slice_index_or, filter_map, Option, Some, None}
use Rattle.histories.specs.Words.{last_or}
use Rattle.packet_forms.specs.Numbers.{be16_at, be32_at}
use Rattle.packet_forms.specs.Packets.{message_id}
use Rattle.lc_watch.specs.Watchpoints.{is_used, watch_at}
use Rattle.lc_watch.specs.declared.watchpoints.Operator.{Operator}
use Rattle.lc_watch.specs.declared.watchpoints.Operator.TheVariants.{Less, LessOrEqual, NotEqual, Equal, GreaterOrEqual, Greater}
use Rattle.lc_watch.specs.declared.watchpoints.WatchRow.{WatchRow}
use Rattle.lc_watch.specs.declared.outcomes.Outcome.{Outcome}
use Rattle.lc_watch.specs.declared.outcomes.Outcome.TheVariants.{Unseen, Clear, Tripped, Outside}

-- How many bytes a value of a type has: type 1 is one byte, 2 two, 3 four.
abbrev pub size_of : ℕ → ℕ
size_of kind = if kind == 1 then 1 else if kind == 2 then 2 else 4

-- The number that these bytes of a packet are, the first the most significant.
abbrev pub value_at : ℕ → List ℕ → ℕ → ℕ
value_at kind p at = if kind == 1 then slice_index p at else if kind == 2 then be16_at p at else be32_at p at

-- Whether a value stands in this relation to a limit. Both are numbers without a sign.
abbrev pub compares : Operator → ℕ → ℕ → Bool
compares Less value limit = nat_lt value limit
compares LessOrEqual value limit = nat_le value limit
compares NotEqual value limit = not (value == limit)
compares Equal value limit = value == limit
compares GreaterOrEqual value limit = nat_le limit value
compares Greater value limit = nat_lt limit value

-- Whether a value stands in the relation of an operator to a limit, where there is an operator.
abbrev pub holds : Option Operator → ℕ → ℕ → Bool
holds None value limit = false
holds (Some operator) value limit = compares operator value limit

-- The outcome of a watchpoint on a packet of its id: whether its value, masked, is in the relation to the limit, where all bytes of the
-- value lie in the packet.
unfoldable pub reading : WatchRow → List ℕ → Outcome
reading row p =
    if nat_le (row.offset + size_of row.kind) (length p)
    then (if holds row.operator (bit_and (value_at row.kind p row.offset) row.mask) row.limit then Tripped else Clear)
    else Outside

-- The outcome of a watchpoint on a packet of any id: one of another id has none.
abbrev pub reading_in : WatchRow → List ℕ → Option Outcome
reading_in row p = if message_id p == row.id then Some (reading row p) else None

-- The outcome of a watchpoint behind these packets: that on the last one of its id. Before the first one, and where it isn't used, it
-- has seen nothing.
unfoldable pub outcome_of : WatchRow → List (List ℕ) → Outcome
outcome_of row telemetry = if is_used row then last_or Unseen (filter_map (reading_in row) telemetry) else Unseen

-- The outcome of the watchpoint in a place of a table.
abbrev pub outcome_at : List WatchRow → List (List ℕ) → ℕ → Outcome
outcome_at rows telemetry place = outcome_of (watch_at rows place) telemetry

-- The outcome in a place of those that are kept.
abbrev pub kept_at : List Outcome → ℕ → Outcome
kept_at outcomes place = slice_index_or outcomes place Unseen

-- Whether a watchpoint's value was compared, and whether the comparison held.
abbrev pub is_known : Outcome → Bool
is_known Unseen = false
is_known Clear = true
is_known Tripped = true
is_known Outside = false

abbrev pub is_tripped : Outcome → Bool
is_tripped Unseen = false
is_tripped Clear = false
is_tripped Tripped = true
is_tripped Outside = false

-- The outcomes that are kept stand for the telemetry so far.
pub record OutcomesStand (watch : List WatchRow) (telemetry : List (List ℕ)) (outcomes : List Outcome) : Type 0 where
  pub long : length outcomes ≡ 32
  pub each : (k : ℕ) → k < 32 → kept_at outcomes k ≡ outcome_at watch telemetry k
