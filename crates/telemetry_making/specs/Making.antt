-- What the words say that a packet is shown by which an application made.
use Rattle.std.specs.Prelude.{◌≡◌, ℕ, ◌^◌, ◌<◌, List, [], ◌∷◌, ◌++◌, Option, Some, None}
use Rattle.packet_forms.specs.Built.{with_sequence}
use Rattle.bus_pipes.specs.declared.names.Counts.{Counts}
use Rattle.row_forms.specs.declared.field.Field.{Field}
use Rattle.row_forms.specs.Rows.{row_words, row_shown}
use Rattle.row_forms.specs.RowNumbers.{numbers_said}
use Rattle.telemetry.specs.declared.row.TelemetryRow.{TelemetryRow}
use Rattle.telemetry.specs.Telemetry.{named, content_of, telemetry_shown}
use Rattle.telemetry.specs.Dictionary.{dictionary}

abbrev pub fields_in : Option TelemetryRow → List Field
fields_in None = []
fields_in (Some r) = r.fields.now

-- the fields of the dictionary's row of a name
unfoldable pub fields_of : List ℕ → List Field
fields_of name = fields_in (named dictionary name)

-- the words by which a packet is shown behind this name
abbrev pub words_of : List ℕ → List ℕ → List (List ℕ)
words_of name packet = row_words (fields_of name) (content_of packet)

-- A packet is shown by this name and the words of its row, and these say these numbers, in their order.
pub record IsShownWith (name numbers packet : List ℕ) : Type 0 where
  pub shown : telemetry_shown dictionary packet ≡ name ++ row_shown (fields_of name) (content_of packet)
  pub said : (epoch : Option ℕ) → numbers_said epoch (fields_of name) (words_of name packet) ≡ Some numbers

-- Whatever its time is, and the sequence count that it is sent with: a packet is shown by this name, its time, its count and these
-- numbers.
abbrev pub Shows : List ℕ → List ℕ → (ℕ → List ℕ) → Type 0
Shows name numbers packet =
    (time count : ℕ) → time < 2 ^ 32 → count < 2 ^ 14 → IsShownWith name (time ∷ count ∷ numbers) (with_sequence count (packet time))

-- The last of these words is this one.
abbrev pub EndsIn : List ℕ → List ℕ → (ℕ → List ℕ) → Type 0
EndsIn name word packet =
    (time count : ℕ) → time < 2 ^ 32 → count < 2 ^ 14
    → (front : List (List ℕ)) × (words_of name (with_sequence count (packet time)) ≡ front ++ word ∷ [])

-- Both counts of an application's commands are numbers of one byte.
pub record AreCounts (counts : Counts) : Type 0 where
  pub accepted : counts.accepted < 256
  pub errors : counts.errors < 256
