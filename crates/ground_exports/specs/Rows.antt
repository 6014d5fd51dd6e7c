-- The rows of comma-separated fields.
use Rattle.std.specs.Prelude.{◌≡◌, ℕ, Bool, if◌then◌else◌, List, [], ◌∷◌, ◌++◌, length, codes, decimal, Option}
use Rattle.std.specs.Io.KnownBytes.{Appends}
use Rattle.csv.specs.Writing.{row_text, default_writer}
use Rattle.packet_forms.specs.Hex.{hex}
use Rattle.packet_log.specs.Lines.{pipe_text}
use Rattle.log_lines.specs.declared.line.LineItem.{LineItem}
use Rattle.log_lines.specs.declared.line.LineItem.TheVariants as items
use Rattle.log_lines.specs.declared.line.LogLine.{LogLine}
use Rattle.ground_logs.specs.Making.{lines_of, is_log, AreMade}

-- what a line is
abbrev pub kind_cell : LineItem → List ℕ
kind_cell (items.Packet packet) = codes "packet"
kind_cell (items.Drop lost) = codes "drop"
kind_cell items.Reset = codes "request"
kind_cell (items.Restart name) = codes "request"
kind_cell (items.Delete name) = codes "request"

-- the pipe that dropped a packet
abbrev pub pipe_cell : LineItem → List ℕ
pipe_cell (items.Packet packet) = []
pipe_cell (items.Drop lost) = pipe_text lost.pipe
pipe_cell items.Reset = []
pipe_cell (items.Restart name) = []
pipe_cell (items.Delete name) = []

abbrev pub drop_cause : Bool → List ℕ
drop_cause full = if full then codes "full" else codes "limit"

-- why a packet was dropped
abbrev pub cause_cell : LineItem → List ℕ
cause_cell (items.Packet packet) = []
cause_cell (items.Drop lost) = drop_cause lost.full
cause_cell items.Reset = []
cause_cell (items.Restart name) = []
cause_cell (items.Delete name) = []

-- the bytes of a packet, in hexadecimal digits
abbrev pub packet_cell : LineItem → List ℕ
packet_cell (items.Packet packet) = hex packet
packet_cell (items.Drop lost) = hex lost.packet
packet_cell items.Reset = []
packet_cell (items.Restart name) = []
packet_cell (items.Delete name) = []

-- the names of the columns in front of those of the fields
abbrev pub fixed_columns : List (List ℕ)
fixed_columns = codes "frame" ∷ codes "kind" ∷ codes "application" ∷ codes "name" ∷ codes "pipe" ∷ codes "cause" ∷ codes "words" ∷ codes "packet" ∷ []

-- The cells of a line, with so many of fields behind the others.
pub record AreCells (line : LogLine) (fields : ℕ) (cells : List (List ℕ)) : Type 0 where
  pub application : List ℕ
  pub name : List ℕ
  pub words : List ℕ
  pub values : List (List ℕ)
  pub count : length values ≡ fields
  pub whole : cells ≡ (decimal line.frame ∷ kind_cell line.item ∷ application ∷ name ∷ pipe_cell line.item ∷ cause_cell line.item ∷ words ∷ packet_cell line.item ∷ []) ++ values

-- The row of a line.
pub record IsRow (fields : ℕ) (line : LogLine) (row : List ℕ) : Type 0 where
  pub cells : List (List ℕ)
  pub each : AreCells line fields cells
  pub text : row ≡ row_text default_writer cells

-- The rows of a whole text were written below one with the names of the columns, one for each of its lines, in their order, and it was
-- said whether all of the lines are a log's.
pub record AreRowsOf (text : List ℕ) (said : Bool) (before after : Option (List ℕ)) : Type 0 where
  pub keys : List (List ℕ)
  pub rows : List ℕ
  pub made : AreMade (IsRow (length keys)) (lines_of text) rows
  pub written : Appends before after (row_text default_writer (fixed_columns ++ keys) ++ rows)
  pub whole : said ≡ is_log text
