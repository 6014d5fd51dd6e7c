-- The message ids of the bus: commands, requests for housekeeping, housekeeping, and the other telemetry that is made.
use Rattle.std.specs.Prelude.{ℕ, ◌+◌}

abbrev pub hs_command : ℕ
hs_command = 0x18AE

abbrev pub hs_request : ℕ
hs_request = 0x18AF

abbrev pub hs_housekeeping : ℕ
hs_housekeeping = 0x08AD

abbrev pub cs_command : ℕ
cs_command = 0x189F

abbrev pub cs_request : ℕ
cs_request = 0x18A0

abbrev pub cs_housekeeping : ℕ
cs_housekeeping = 0x08A4

abbrev pub cs_baseline : ℕ
cs_baseline = 0x08A5

abbrev pub sc_command : ℕ
sc_command = 0x18A9

abbrev pub sc_request : ℕ
sc_request = 0x18AA

abbrev pub sc_housekeeping : ℕ
sc_housekeeping = 0x08AA

abbrev pub mm_command : ℕ
mm_command = 0x1888

abbrev pub mm_request : ℕ
mm_request = 0x1889

abbrev pub mm_housekeeping : ℕ
mm_housekeeping = 0x0887

abbrev pub mm_peek : ℕ
mm_peek = 0x088A

abbrev pub mm_dump : ℕ
mm_dump = 0x088B

abbrev pub md_command : ℕ
md_command = 0x1890

abbrev pub md_request : ℕ
md_request = 0x1891

abbrev pub md_housekeeping : ℕ
md_housekeeping = 0x0890

-- the packets of dwell table n, from 1 to 4
abbrev pub md_dwell : ℕ → ℕ
md_dwell n = 0x0890 + n

abbrev pub lc_command : ℕ
lc_command = 0x18A6

abbrev pub lc_request : ℕ
lc_request = 0x18A7

abbrev pub lc_housekeeping : ℕ
lc_housekeeping = 0x08A7

-- events of all applications
abbrev pub event_id : ℕ
event_id = 0x0808
