-- When a reader stands for a text of which these items were given, and what it has.
use Rattle.std.specs.Prelude.{◌≡◌, ◌≤◌, ℕ, ◌+◌, ◌==◌, Bool, true, false, ◌&&◌, ◌||◌, if◌then◌else◌, nat_lt, List, [], ◌∷◌, ◌++◌, length, take, slice_index, Option, Some, None, is_some, unwrap_or}
use Rattle.std.specs.List.{AllByRecursion}
use Rattle.scenario.specs.declared.progress.Header.{Header}
use Rattle.scenario.specs.declared.item.Item.{Item as Answer}
use Rattle.scenario.specs.declared.sentence.Sentence.{Sentence}
use Rattle.scenario.specs.declared.reader.Reader.{Reader}
use Rattle.scenario.specs.Frames.{header_of, place_after, is_started}
use Rattle.scenario.specs.Texts.{Text, Line, Before, Given, Head, Whole, with_items, read_bytes, reading, passed}
use Rattle.scenario.specs.Following.{Follows, KeepsFrame}
use Rattle.scenario.specs.Answers.{item_said, end_answer}

-- a text with more bytes
abbrev pub fed : Text → List ℕ → Text
fed t more = record t { bytes = t.bytes ++ more }

-- a text whose end was reached
abbrev pub closed : Text → Text
closed t = record t { closed = true }

-- the byte that ends a line
abbrev pub is_lf : ℕ → Bool
is_lf b = b == 10

-- a byte that doesn't end a line
abbrev pub IsNoLf : ℕ → Type 0
IsNoLf b = is_lf b ≡ false

-- the bytes of the line that has begun, with its LF where that was fed
abbrev pub line_bytes : Reader → List ℕ
line_bytes r = if r.whole then r.line.value ++ 10 ∷ [] else r.line.value

-- nothing was given before the header, and the header first
abbrev pub HasHead : Option Header → List Given → Type 0
HasHead None gave = gave ≡ []
HasHead (Some h) gave = (frames : List Given) × (gave ≡ Head h.epoch h.map ∷ frames)

-- The reader holds what the text gives after the items that it gave: it looked at the lines that were seen, and holds the rest.
pub record Stands (r : Reader) (t : Text) (gave : List Given) : Type 0 where
  pub seen : List ℕ
  pub before : Before
  pub stops : List ℕ
  pub bytes : t.bytes ≡ seen ++ line_bytes r
  pub ended : t.closed ≡ r.finished
  pub follows : Follows r.progress before
  pub line : AllByRecursion IsNoLf r.line.value
  pub short : (if r.whole then length r.line.value + 1 else length r.line.value) ≤ 641
  pub now : reading t ≡ with_items gave stops (read_bytes t.closed before (line_bytes r))
  pub later : t.closed ≡ false → (more : List ℕ) (end : Bool) → reading (record { bytes = seen ++ more; closed = end }) ≡ with_items gave stops (read_bytes end before more)
  pub count : before.bytes ≡ length seen
  pub ends : length stops ≡ length gave
  pub started : is_started (place_after before.sentences) ≡ is_some (header_of before.sentences)
  pub head : HasHead (header_of before.sentences) gave
  pub shown : r.progress.shown ≡ true → (front : List Given) × (gave ≡ front ++ Whole r.progress.frame.value ∷ [])

-- a line is there to be looked at
abbrev pub has_line : Reader → Bool
has_line r = r.whole || nat_lt 640 (length r.line.value) || (r.finished && nat_lt 0 (length r.line.value))

-- that line
abbrev pub line_of : Reader → Line
line_of r = record { bytes = r.line.value; takes = if r.whole then length r.line.value + 1 else length r.line.value }

-- the end of the text was told
abbrev pub is_finished : Reader → Bool
is_finished r = r.finished

-- no line is whole that wasn't looked at: so it is at the beginning, and where the last answer was More
abbrev pub Waits : Reader → Type 0
Waits r = has_line r ≡ false

-- a frame is shown: the last answer was Frame
abbrev pub Shows : Reader → Type 0
Shows r = r.progress.shown ≡ true

-- how many bytes were fed and not yet looked at
abbrev pub left : Reader → ℕ
left r = if r.whole then length r.line.value + 1 else length r.line.value

-- the header that can be looked at
abbrev pub header_in : Reader → Given
header_in r = Head r.progress.epoch r.progress.regions

-- the frame that can be looked at
abbrev pub frame_in : Reader → Given
frame_in r = Whole r.progress.frame.value

-- a good line was passed that says this
pub record Passes (r : Reader) (said : Option Sentence) (given : Answer) (q : Reader) : Type 0 where
  pub line : q.line.value ≡ []
  pub whole : q.whole ≡ false
  pub finished : q.finished ≡ r.finished
  pub follows : (old : Before) (line : List ℕ) → Follows r.progress old → Follows q.progress (passed old (record { bytes = line; takes = left r }) said)
  pub keeps : KeepsFrame r.progress said q.progress
  pub answer : given ≡ unwrap_or (item_said said) (end_answer r.finished q.progress.place q.progress.lines)

-- the line `tick` with its LF
abbrev pub tick_line : List ℕ
tick_line = 116 ∷ 105 ∷ 99 ∷ 107 ∷ 10 ∷ []

-- whether the line `tick` was taken that a piece begins with: it was fed, and its frame is given, which is where the bytes fed so far end
abbrev pub TakesTick : Bool → List ℕ → Text → List Given → Reader → Type 0
TakesTick true piece t gave r = Stands r (fed t (take 5 piece)) (gave ++ frame_in r ∷ []) × (slice_index (reading (fed t (take 5 piece))).stops (length gave) ≡ length (fed t (take 5 piece)).bytes)
TakesTick false piece t gave r = Stands r t gave
