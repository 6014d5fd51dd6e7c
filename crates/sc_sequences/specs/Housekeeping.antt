-- Stored Command's housekeeping.
use Rattle.std.specs.Prelude.{ℕ, ◌+◌, ◌/◌, ◌%◌, List, [], ◌∷◌, ◌++◌, map, drop, length, Option, Some, None}
use Rattle.histories.specs.Masks.{bits_of}
use Rattle.packet_forms.specs.MessageIds.{sc_housekeeping}
use Rattle.packet_forms.specs.Numbers.{be16_bytes, be32_bytes}
use Rattle.packet_forms.specs.Built.{telemetry_of}
use Rattle.bus_pipes.specs.declared.names.Counts.{Counts}
use Rattle.sc_sequences.specs.Sequences.{Sequence, is_running, at_place, running_ats}
use Rattle.sc_sequences.specs.Turns.{Sequences}
use Rattle.sc_sequences.specs.declared.housekeeping.Report.{Report}

-- The number of the absolute sequence in a place that runs, 0 where none runs, and how many of its commands are left.
abbrev pub shown_ats : Option ℕ → ℕ
shown_ats None = 0
shown_ats (Some place) = place + 1

abbrev pub left_in : List Sequence → Option ℕ → ℕ
left_in all None = 0
left_in all (Some place) = length (at_place all place).left

-- The relative sequences that run, and those that are enabled: bit n - 1 is sequence n.
unfoldable pub running_mask : List Sequence → ℕ
running_mask all = bits_of (map is_running (drop 2 all))

unfoldable pub enabled_mask : List Sequence → ℕ
enabled_mask all = bits_of (map (λ s. s.enabled) (drop 2 all))

-- What is shown of the sequences. The commands that were sent and those with a wrong checksum are counted modulo 65,536.
unfoldable pub report_of : Sequences → Report
report_of s = record {
  ats = shown_ats (running_ats s.all);
  left = left_in s.all (running_ats s.all);
  sent = s.sent % 65536;
  wrong = s.wrong % 65536;
  masks = record { running = running_mask s.all; enabled = enabled_mask s.all };
}

-- Eight bytes of a number, the most significant first.
unfoldable pub be64_bytes : ℕ → List ℕ
be64_bytes n = be32_bytes (n / 4294967296) ++ be32_bytes n

-- What is told of the commands: those left, those sent, those with a wrong checksum, 0.
abbrev pub numbers_bytes : ℕ → ℕ → ℕ → List ℕ
numbers_bytes left sent wrong = be16_bytes left ++ be16_bytes sent ++ be16_bytes wrong ++ be16_bytes 0

-- The housekeeping packet: both counts, the absolute sequence that runs, 0, how many of its commands are left, the commands sent and those with a
-- wrong checksum, 0, the relative sequences that run, and those that are enabled.
unfoldable pub housekeeping_of : ℕ → Counts → Report → List ℕ
housekeeping_of time counts report =
    telemetry_of sc_housekeeping time (
    (counts.accepted ∷ counts.errors ∷ report.ats ∷ 0 ∷ []) ++ numbers_bytes report.left report.sent report.wrong
    ++ be64_bytes report.masks.running ++ be64_bytes report.masks.enabled)
