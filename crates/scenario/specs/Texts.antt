-- What a text is, and what it gives: items, and then an ending.
use Rattle.std.specs.Prelude.{◌≡◌, ℕ, ◌+◌, ◌==◌, ◌≤◌, min, map, Bool, true, false, ◌&&◌, ◌||◌, if◌then◌else◌, nat_lt, List, [], ◌∷◌, ◌++◌, length, Option, Some, None, Result, Ok, Err, ◌⊎◌}
use Rattle.std.specs.List.{slice_split, AllByRecursion}
use Rattle.memory_window.specs.declared.regions.Region.{Region as MemRegion}
use Rattle.scenario.specs.declared.reason.Reason.{Reason}
use Rattle.scenario.specs.declared.reason.Reason.TheVariants as reasons
use Rattle.scenario.specs.declared.sentence.Place.TheVariants as places
use Rattle.scenario.specs.declared.sentence.Sentence.{Sentence}
use Rattle.scenario.specs.declared.sentence.Sentence.TheVariants as says
use Rattle.scenario.specs.Sentences.{line_says}
use Rattle.memory_window.specs.Regions.{map_fault_of, is_mapped}
use Rattle.scenario.specs.declared.frame.Upset.{Upset as UpsetByte}
use Rattle.scenario.specs.FrameLists.{Frame, items_in}
use Rattle.scenario.specs.Frames.{place_after, epoch_of, regions_of, frame_of, refusal}

-- a text: its bytes so far, and whether its end was reached
pub record Text : Type 0 where
  pub bytes : List ℕ
  pub closed : Bool

-- a whole line without its LF, and how many bytes of the text it takes with it
pub record Line : Type 0 where
  pub bytes : List ℕ
  pub takes : ℕ

-- The lines that are whole, of the parts between LFs. Behind the last LF bytes are a line where the text is closed, or where there are 641 of them.
abbrev pub whole_lines : Bool → List (List ℕ) → List Line
whole_lines closed [] = []
whole_lines closed (last ∷ []) =
    if nat_lt 640 (length last) || (closed && nat_lt 0 (length last)) then record { bytes = last; takes = length last } ∷ [] else []
whole_lines closed (part ∷ next ∷ more) = record { bytes = part; takes = length part + 1 } ∷ whole_lines closed (next ∷ more)

-- what stood before a line: the sentences of good lines, the newest first, and the numbers of lines and of bytes
pub record Before : Type 0 where
  pub sentences : List Sentence
  pub lines : ℕ
  pub bytes : ℕ

-- nothing stands before the first line
abbrev pub nothing : Before
nothing = record { sentences = []; lines = 0; bytes = 0 }

-- a line has over 640 bytes, or ends past byte 16,777,216 of the text
abbrev pub is_too_long : Before → Line → Bool
is_too_long old line = nat_lt 640 (length line.bytes) || nat_lt 16777216 (old.bytes + line.takes)

-- what a line says, unless that is refused behind what stood before
abbrev pub unless_refused : List Sentence → Option Sentence → Result (Option Sentence) Reason
unless_refused old None = Ok None
unless_refused old (Some s) = elim (refusal old s) [ None ↦ Ok (Some s) | Some reason ↦ Err reason ]

-- the same, where the line says anything
abbrev pub then_unless : List Sentence → Result (Option Sentence) Reason → Result (Option Sentence) Reason
then_unless old (Ok said) = unless_refused old said
then_unless old (Err reason) = Err reason

-- what a line says after what stood before it, or the first reason why it is bad
unfoldable pub reads : Before → Line → Result (Option Sentence) Reason
reads old line =
    if is_too_long old line then Err reasons.TooLong
    else then_unless old.sentences (line_says (place_after old.sentences) line.bytes)

-- a good line is added to what stood before
abbrev pub passed : Before → Line → Option Sentence → Before
passed old line None = record old { lines = old.lines + 1; bytes = old.bytes + line.takes }
passed old line (Some s) = record { sentences = s ∷ old.sentences; lines = old.lines + 1; bytes = old.bytes + line.takes }

-- what a text gives, one after another: the header, by its epoch and its regions, and then whole frames
pub data Given : Type 0 where
  Head : ℕ → List MemRegion → Given
  Whole : Frame → Given

-- the `start` line gives the header, each `tick` line a frame
abbrev pub given : List Sentence → Option Sentence → List Given
given old None = []
given old (Some (says.Epoch n)) = []
given old (Some (says.Region r)) = []
given old (Some says.Start) = Head (epoch_of old) (regions_of old) ∷ []
given old (Some (says.Send p)) = []
given old (Some (says.Count c)) = []
given old (Some (says.Upset u)) = []
given old (Some (says.Hold a)) = []
given old (Some (says.Activate n)) = []
given old (Some says.Tick) = Whole (frame_of old) ∷ []
given old (Some says.End) = []

-- how a text ends: at a bad line, with its number and its first reason; well; without `end`, after so many lines; or it is open
pub data Ending : Type 0 where
  Bad : ℕ → Reason → Ending
  Ended : Ending
  Unended : ℕ → Ending
  Open : Ending

-- how a text ends that has no bad line
abbrev pub ending_at : Bool → Before → Ending
ending_at false old = Open
ending_at true old = elim (place_after old.sentences) [
  | places.Opening ↦ Unended old.lines
  | places.Header ↦ Unended old.lines
  | places.Between ↦ Unended old.lines
  | places.Inside ↦ Unended old.lines
  | places.Ended ↦ Ended
]

-- the items of a text, its ending, and its stops: how many bytes lie before the end of each line that gives an item, and then of the bad line
pub record Reading : Type 0 where
  pub items : List Given
  pub ending : Ending
  pub stops : List ℕ

-- a reading with items in front, and their stops
abbrev pub with_items : List Given → List ℕ → Reading → Reading
with_items front ends r = record { items = front ++ r.items; ending = r.ending; stops = ends ++ r.stops }

-- the bytes up to the end of a line
abbrev pub end_of : Before → Line → ℕ
end_of old line = old.bytes + line.takes

-- the bytes up to the end of a bad line, or to its 641st byte where it is longer
abbrev pub bad_end_of : Before → Line → ℕ
bad_end_of old line = old.bytes + min 641 line.takes

-- what whole lines give, after what stood before them
unfoldable pub read : Bool → Before → List Line → Reading
read closed old [] = record { items = []; ending = ending_at closed old; stops = [] }
read closed old (line ∷ more) = elim (reads old line) [
  | Ok said ↦ with_items (given old.sentences said) (map (λ _. end_of old line) (given old.sentences said)) (read closed (passed old line said) more)
  | Err reason ↦ record { items = []; ending = Bad (old.lines + 1) reason; stops = bad_end_of old line ∷ [] }
]

-- what bytes give, after what stood before them
unfoldable pub read_bytes : Bool → Before → List ℕ → Reading
read_bytes closed old bytes = read closed old (whole_lines closed (slice_split (λ b. b == 10) bytes))

-- what a text gives: its items, its ending and its stops
unfoldable pub reading : Text → Reading
reading t = read_bytes t.closed nothing t.bytes

-- What an open text gave, and what it gives when it has grown: the same items and stops, and more, or the same bad line
abbrev pub Grows : Reading → Reading → Type 0
Grows r q = ((r.ending ≡ Open) × ((more : Reading) × (q ≡ with_items r.items r.stops more))) ⊎ (q ≡ r)

-- a frame of at most 64 items, whose upsets lie in the regions
abbrev pub IsGoodFrame : List MemRegion → Given → Type 0
IsGoodFrame regions (Head epoch others) = ⊥
IsGoodFrame regions (Whole frame) = (items_in frame ≤ 64) × AllByRecursion (λ (u : UpsetByte). is_mapped regions u.at ≡ true) frame.upsets

-- The first item is the header, with an epoch of at most 4,294,000,000 and regions that make a map. Behind it stand at most 100,000 frames, each of at most 64 items, whose upsets lie in the map.
abbrev pub AreGood : List Given → Type 0
AreGood [] = Unit {0}
AreGood (Head epoch regions ∷ frames) = (epoch ≤ 4294000000) × (map_fault_of regions ≡ None) × (length frames ≤ 100000) × AllByRecursion (IsGoodFrame regions) frames
AreGood (Whole frame ∷ more) = ⊥
