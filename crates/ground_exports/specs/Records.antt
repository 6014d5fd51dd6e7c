-- The records of a capture.
use Rattle.std.specs.Prelude.{◌≡◌, ℕ, ◌+◌, ◌-◌, ◌^◌, min, Bool, List, [], ◌++◌, Option}
use Rattle.std.specs.List.{flat_map}
use Rattle.std.specs.Io.KnownBytes.{Appends}
use Rattle.log_lines.specs.declared.line.LineItem.{LineItem}
use Rattle.log_lines.specs.declared.line.LineItem.TheVariants as items
use Rattle.log_lines.specs.declared.line.LogLine.{LogLine}
use Rattle.pcap_form.specs.Captures.{stamped, capture_header}
use Rattle.ground_logs.specs.Making.{lines_of, is_log}

-- the record of what a line tells: of a packet that was sent; what else a line tells has none
abbrev pub record_of : ℕ → LineItem → List ℕ
record_of seconds (items.Packet packet) = stamped (record { seconds = seconds; packet = packet })
record_of seconds (items.Drop lost) = []
record_of seconds items.Reset = []
record_of seconds (items.Restart name) = []
record_of seconds (items.Delete name) = []

-- the second of a frame: as far behind the epoch as the frame's number says, which isn't told beyond 2^32 - 1
abbrev pub second_of : ℕ → ℕ → ℕ
second_of epoch frame = min (epoch + frame) (2 ^ 32 - 1)

-- the record of a line
abbrev pub line_record : ℕ → LogLine → List ℕ
line_record epoch line = record_of (second_of epoch line.frame) line.item

-- the capture of a log: the header, and the records of its lines that ended, in their order
unfoldable pub capture_of : ℕ → List ℕ → List ℕ
capture_of epoch text = capture_header ++ flat_map (line_record epoch) (lines_of text)

-- A capture of a whole text was written, and it was said whether all of its lines are a log's.
pub record IsCaptureOf (epoch : ℕ) (text : List ℕ) (said : Bool) (before after : Option (List ℕ)) : Type 0 where
  pub written : Appends before after (capture_of epoch text)
  pub whole : said ≡ is_log text
