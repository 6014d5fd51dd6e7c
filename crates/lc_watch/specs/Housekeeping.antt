-- LC's housekeeping.
use Rattle.std.specs.Prelude.{ℕ, ◌+◌, ◌*◌, ◌/◌, ◌%◌, Bool, List, [], ◌∷◌, ◌++◌, map}
use Rattle.std.specs.List.{range_with_len}
use Rattle.histories.specs.Masks.{bits_of}
use Rattle.packet_forms.specs.MessageIds.{lc_housekeeping}
use Rattle.packet_forms.specs.Numbers.{be16_bytes, be32_bytes}
use Rattle.packet_forms.specs.Built.{telemetry_of as telemetry_packet}
use Rattle.bus_pipes.specs.declared.names.Counts.{Counts}
use Rattle.lc_watch.specs.Outcomes.{outcome_at}
use Rattle.lc_watch.specs.Histories.{Input, Setup, telemetry_of}
use Rattle.lc_watch.specs.Firing.{is_active, fired_count}
use Rattle.lc_watch.specs.declared.outcomes.Outcome.{Outcome}
use Rattle.lc_watch.specs.declared.outcomes.Outcome.TheVariants.{Unseen, Clear, Tripped, Outside}
use Rattle.lc_watch.specs.declared.instructions.Instruction.{Instruction}

-- The two bits of an outcome: 0 nothing seen, 1 it didn't hold, 2 it held, 3 outside the packet.
abbrev pub code_of : Outcome → ℕ
code_of Unseen = 0
code_of Clear = 1
code_of Tripped = 2
code_of Outside = 3

-- Outcomes as one number, two bits each, the first lowest.
unfoldable pub codes_of : List Outcome → ℕ
codes_of [] = 0
codes_of (outcome ∷ outcomes) = code_of outcome + 4 * codes_of outcomes

-- The outcomes of the 32 watchpoints as one number.
unfoldable pub results_of : (ℕ → Outcome) → ℕ
results_of outcome = codes_of (map outcome (range_with_len 0 32))

-- The active actionpoints: bit i is the one in place i.
unfoldable pub active_bits : (ℕ → Bool) → ℕ
active_bits active = bits_of (map active (range_with_len 0 16))

-- The eight bytes of a number.
abbrev pub be64_bytes : ℕ → List ℕ
be64_bytes n = be32_bytes (n / 4294967296) ++ be32_bytes (n % 4294967296)

-- The housekeeping packet: both counts, 0, the active actionpoints, the firings, the outcomes.
unfoldable pub housekeeping_of : ℕ → Counts → ℕ → ℕ → ℕ → List ℕ
housekeeping_of time counts active fired results =
    telemetry_packet lc_housekeeping time ((counts.accepted ∷ counts.errors ∷ []) ++ be16_bytes 0 ++ be16_bytes active ++ be16_bytes fired ++ be64_bytes results)

-- The housekeeping packet at a place in a wakeup, behind what was ordered in it so far.
unfoldable pub housekeeping_at : Setup → List Input → Input → Counts → List Instruction → List ℕ
housekeeping_at setup history input counts orders =
    housekeeping_of input.time counts (active_bits (is_active setup history orders)) (fired_count setup history) (results_of (outcome_at setup.watch (telemetry_of history)))
