-- When the state of a dwell stream stands for its table and the images of the wakeups so far.
use Rattle.std.specs.Prelude.{◌≡◌, ℕ, ◌<◌, Bool, true, List, []}
use Rattle.memory_window.specs.Memory.{Memory}
use Rattle.md_dwell.specs.Lists.{list_of, delays}
use Rattle.md_dwell.specs.Readings.{IsInRound}
use Rattle.md_dwell.specs.declared.tables.DwellEntry.{DwellEntry}
use Rattle.md_dwell.specs.declared.streams.Stream.{Stream}

-- Between wakeups a stream waits for the next entry of some round.
pub record Runs (list : List DwellEntry) (since : ℕ) (images : List Memory) (s : Stream) : Type 0 where
  pub round : ℕ
  pub in_round : IsInRound list since images images round s.next s.wait s.bytes
  pub waits : 0 < s.wait

-- A stream stands for its entries, whether it is enabled, the wakeup in which it started and the images so far. Where it isn't enabled or
-- its list has no delay, nothing is said of what it reads next.
pub record StreamStands (entries : List DwellEntry) (on : Bool) (since : ℕ) (images : List Memory) (s : Stream) : Type 0 where
  pub plan : s.plan ≡ entries
  pub enabled : s.enabled ≡ on
  pub runs : on ≡ true → 0 < delays (list_of entries) → Runs (list_of entries) since images s

-- A stream is at its beginning: its first entry is read in the next wakeup, and it has no bytes.
pub record IsAtBeginning (s : Stream) : Type 0 where
  pub next : s.next ≡ 0
  pub wait : s.wait ≡ 1
  pub bytes : s.bytes ≡ []
