-- What the lines of a plan say.
use Rattle.std.specs.Prelude.{◌≡◌, ℕ, ◌+◌, ◌-◌, ◌*◌, ◌==◌, ◌&&◌, max, if◌then◌else◌, nat_lt, nat_le, List, [], ◌∷◌, ◌++◌, map, take, length, slice_index, codes, Option, Some, None, Result, Ok, Err}
use Rattle.std.specs.Str.{bytes_eq}
use Rattle.row_forms.specs.Words.{number}
use Rattle.row_forms.specs.declared.fault.Reason.TheVariants as words
use Rattle.telecommands.specs.declared.command.Command.{Command}
use Rattle.table_texts.specs.Lines.{Numbered, kept_of}
use Rattle.plan_text.specs.declared.fault.PlanReason.{PlanReason}
use Rattle.plan_text.specs.declared.fault.PlanReason.TheVariants as reasons
use Rattle.plan_text.specs.declared.fault.PlanFault.{PlanFault}
use Rattle.plan_text.specs.declared.fault.LineError.{LineError}
use Rattle.plan_text.specs.declared.fault.LineError.TheVariants as line_errors
use Rattle.plan_text.specs.Lines.{sent_line}
use Rattle.plan_text.specs.Plans.{◌>>=◌, or_else, word_fault, none, one, packet_sent, as_plan, fault_on}
use Rattle.calendar_dates.specs.declared.epoch.Epoch.{Epoch}
use Rattle.timed_plans.specs.declared.heading.Heading.{Heading}
use Rattle.timed_plans.specs.declared.stage.Course.{Course}
use Rattle.timed_plans.specs.declared.stage.Stage.{Stage}
use Rattle.timed_plans.specs.declared.stage.Stage.TheVariants as stages
use Rattle.timed_plans.specs.declared.kind.LineKind.{LineKind}
use Rattle.timed_plans.specs.declared.kind.LineKind.TheVariants as kinds
use Rattle.timed_plans.specs.Kinds.{kind_of}
use Rattle.timed_plans.specs.Times.{frame_of_word, timed_line, dated_words, binding_line}
use Rattle.timed_plans.specs.Headings.{frame_alone, frames_between}
use Rattle.timed_plans.specs.Schedules.{Timed, timed, spread, app_line, counted_in, Schedule, LineText, shown}

-- what a line makes: lines of the scenario, and how far the plan has come behind it
pub record Made : Type 0 where
  pub lines : List Timed
  pub stage : Stage

-- ---- headings

-- the lines below stand in these frames
abbrev pub turned : Course → Heading → Result Made PlanReason
turned c h = Ok (record { lines = []; stage = stages.Frames (record { epoch = c.epoch; heading = h; frames = max c.frames h.first; items = c.items }) })

-- the lines below stand in frame n
abbrev pub turned_to : Course → ℕ → Result Made PlanReason
turned_to c n = if nat_lt 100000 n then Err reasons.Frames else turned c (frame_alone n)

-- `at TIME`
abbrev pub at_line : Course → List (List ℕ) → Result Made PlanReason
at_line c others = do
  n ← timed_line c.epoch 2 others
  turned_to c n

-- `frame N`
abbrev pub frame_line : Course → List (List ℕ) → Result Made PlanReason
frame_line c others = do
  word ← one 2 others
  n ← or_else (word_fault 2 words.Number32) (number 4294967295 word)
  turned_to c n

-- `tick`: the frame behind the last one of the heading
abbrev pub tick_line : Course → List (List ℕ) → Result Made PlanReason
tick_line c others = do
  _ ← none 2 others
  turned_to c (c.heading.last + 1)

-- each p-th frame from frame a on, up to the one before frame b
abbrev pub spanned : Course → ℕ → ℕ → ℕ → Result Made PlanReason
spanned c p a b =
    if nat_le b a then Err reasons.Backward
    else if nat_lt 100000 b then Err reasons.Frames
    else turned c (frames_between p a b)

-- `TIME to TIME`, of which the first is the n-th word
abbrev pub span_line : Course → ℕ → ℕ → List (List ℕ) → Result Made PlanReason
span_line c p n [] = Err reasons.Span
span_line c p n (a ∷ []) = Err reasons.Span
span_line c p n (a ∷ to ∷ []) = Err reasons.Span
span_line c p n (a ∷ to ∷ b ∷ []) =
    if bytes_eq to (codes "to") then frame_of_word c.epoch n a >>= (λ first. frame_of_word c.epoch (n + 2) b >>= (λ behind. spanned c p first behind))
    else Err reasons.Span
span_line c p n (a ∷ to ∷ b ∷ w ∷ ws) = Err reasons.Span

-- what stands before the last byte, where that is an `s`
abbrev pub before_s : List ℕ → Option (List ℕ)
before_s word =
    if nat_lt 0 (length word) && (slice_index word (length word - 1) == 115) then Some (take (length word - 1) word) else None

-- a number that isn't 0
abbrev pub positive : Option ℕ → Option ℕ
positive None = None
positive (Some n) = if nat_lt 0 n then Some n else None

abbrev pub period_in : Option (List ℕ) → Option ℕ
period_in None = None
period_in (Some digits) = positive (number 100000 digits)

-- the seconds of a period such as `10s`
unfoldable pub period_said : List ℕ → Option ℕ
period_said word = period_in (before_s word)

-- `every PERIOD from TIME to TIME`
abbrev pub every_line : Course → List (List ℕ) → Result Made PlanReason
every_line c [] = Err reasons.Span
every_line c (period ∷ []) = Err reasons.Span
every_line c (period ∷ from ∷ span) =
    if bytes_eq from (codes "from") then or_else reasons.Period (period_said period) >>= (λ p. span_line c p 4 span)
    else Err reasons.Span

-- ---- lines of frames

-- where a line stands in so many frames from each of the heading's on
unfoldable pub extended : Course → ℕ → Result Course PlanReason
extended c span =
    if nat_lt 100000 (c.heading.last + span) then Err reasons.Frames
    else if nat_lt 2097152 (c.items + c.heading.count * span) then Err reasons.Long
    else Ok (record { epoch = c.epoch; heading = c.heading; frames = max c.frames (c.heading.last + span); items = c.items + c.heading.count * span })

-- a line in so many frames from each of the heading's on
abbrev pub item_line : Course → ℕ → ℕ → List (List ℕ) → Result Made PlanReason
item_line c span number line = do
  more ← extended c span
  Ok (record { lines = spread span c.heading number line; stage = stages.Frames more })

-- `send HEX`, or `send TELECOMMAND`
abbrev pub send_line : List Command → Course → ℕ → List (List ℕ) → Result Made PlanReason
send_line cs c number others = do
  dated ← dated_words c.epoch 2 others
  packet ← as_plan (packet_sent cs c.epoch.second dated)
  item_line c 1 number (sent_line packet)

-- the frames of `for N`
abbrev pub held_for : List ℕ → List (List ℕ) → Option ℕ
held_for word [] = None
held_for word (span ∷ []) = if bytes_eq word (codes "for") then positive (number 100000 span) else None
held_for word (span ∷ w ∷ ws) = None

-- `hold APP`, or `hold APP for N`
abbrev pub hold_line : Course → ℕ → List ℕ → List (List ℕ) → Result Made PlanReason
hold_line c n first [] = Err reasons.Hold
hold_line c n first (app ∷ []) = item_line c 1 n (first ∷ app ∷ [])
hold_line c n first (app ∷ word ∷ others) = or_else reasons.Hold (held_for word others) >>= (λ frames. item_line c frames n (first ∷ app ∷ []))

-- a counter that has the number of its frame, plus 1
abbrev pub counts_line : Course → ℕ → List ℕ → Result Made PlanReason
counts_line c n name = do
  more ← extended c 1
  Ok (record { lines = counted_in c.heading n name; stage = stages.Frames more })

-- `counter NAME counts`, `counter NAME stays`, which has what it counted in the frame before the heading's first, or `counter NAME = N`
abbrev pub counter_line : Course → ℕ → List (List ℕ) → Result Made PlanReason
counter_line c n [] = Err reasons.Counter
counter_line c n (name ∷ []) = Err reasons.Counter
counter_line c n (name ∷ how ∷ []) =
    if bytes_eq how (codes "counts") then counts_line c n name
    else if bytes_eq how (codes "stays") then item_line c 1 n (app_line name c.heading.first)
    else Err reasons.Counter
counter_line c n (name ∷ is ∷ value ∷ []) =
    if bytes_eq is (codes "=") then or_else reasons.Counter (number 4294967295 value) >>= (λ v. item_line c 1 n (app_line name v))
    else Err reasons.Counter
counter_line c n (name ∷ is ∷ value ∷ w ∷ ws) = Err reasons.Counter

-- ---- the end

-- the end in front of frame n
abbrev pub closed : Course → ℕ → ℕ → Result Made PlanReason
closed c number n =
    if nat_lt n c.frames then Err reasons.Past
    else if nat_lt 100000 n then Err reasons.Frames
    else Ok (record { lines = []; stage = stages.Ended n number })

-- `end`, or `end at TIME`
abbrev pub end_line : Course → ℕ → List (List ℕ) → Result Made PlanReason
end_line c number [] = closed c number c.frames
end_line c number (word ∷ others) =
    if bytes_eq word (codes "at") then timed_line c.epoch 3 others >>= (λ n. closed c number n)
    else Err (word_fault 2 words.Extra)

-- a line behind `start`, which has this number
abbrev pub course_line : List Command → Course → ℕ → Option LineKind → List ℕ → List (List ℕ) → Result Made PlanReason
course_line cs c n None first others = Err reasons.Word
course_line cs c n (Some kinds.Epoch) first others = Err reasons.Place
course_line cs c n (Some kinds.Region) first others = Err reasons.Place
course_line cs c n (Some kinds.Start) first others = Err reasons.Place
course_line cs c n (Some kinds.Send) first others = send_line cs c n others
course_line cs c n (Some kinds.Item) first others = item_line c 1 n (first ∷ others)
course_line cs c n (Some kinds.Hold) first others = hold_line c n first others
course_line cs c n (Some kinds.Counter) first others = counter_line c n others
course_line cs c n (Some kinds.Frame) first others = frame_line c others
course_line cs c n (Some kinds.At) first others = at_line c others
course_line cs c n (Some kinds.From) first others = span_line c 1 2 others
course_line cs c n (Some kinds.Every) first others = every_line c others
course_line cs c n (Some kinds.Tick) first others = tick_line c others
course_line cs c n (Some kinds.End) first others = end_line c n others

-- ---- the header

-- a line of the header by itself
abbrev pub passed : ℕ → Stage → List (List ℕ) → Result Made PlanReason
passed n stage line = Ok (record { lines = timed n line 0 ∷ []; stage = stage })

-- `epoch N`, or `epoch N is DATE`: the scenario has `epoch N`
abbrev pub epoch_line : ℕ → List ℕ → List (List ℕ) → Result Made PlanReason
epoch_line n first [] = Err (word_fault 2 words.Missing)
epoch_line n first (word ∷ others) = do
  second ← or_else reasons.Epoch (number 4294000000 word)
  instant ← binding_line others
  passed n (stages.Header (record { second = second; instant = instant })) (first ∷ word ∷ [])

-- `start`
abbrev pub start_line : ℕ → Epoch → List ℕ → List (List ℕ) → Result Made PlanReason
start_line n epoch first others = do
  _ ← none 2 others
  passed n (stages.Frames (record { epoch = epoch; heading = frame_alone 0; frames = 0; items = 0 })) (first ∷ others)

-- a line before all others
abbrev pub opening_line : ℕ → Option LineKind → List ℕ → List (List ℕ) → Result Made PlanReason
opening_line n None first others = Err reasons.Word
opening_line n (Some kinds.Epoch) first others = epoch_line n first others
opening_line n (Some kinds.Region) first others = Err reasons.Place
opening_line n (Some kinds.Start) first others = Err reasons.Place
opening_line n (Some kinds.Send) first others = Err reasons.Place
opening_line n (Some kinds.Item) first others = Err reasons.Place
opening_line n (Some kinds.Hold) first others = Err reasons.Place
opening_line n (Some kinds.Counter) first others = Err reasons.Place
opening_line n (Some kinds.Frame) first others = Err reasons.Place
opening_line n (Some kinds.At) first others = Err reasons.Place
opening_line n (Some kinds.From) first others = Err reasons.Place
opening_line n (Some kinds.Every) first others = Err reasons.Place
opening_line n (Some kinds.Tick) first others = Err reasons.Place
opening_line n (Some kinds.End) first others = Err reasons.Place

-- a line behind `epoch` and before `start`
abbrev pub header_line : ℕ → Epoch → Option LineKind → List ℕ → List (List ℕ) → Result Made PlanReason
header_line n epoch None first others = Err reasons.Word
header_line n epoch (Some kinds.Epoch) first others = Err reasons.Place
header_line n epoch (Some kinds.Region) first others = passed n (stages.Header epoch) (first ∷ others)
header_line n epoch (Some kinds.Start) first others = start_line n epoch first others
header_line n epoch (Some kinds.Send) first others = Err reasons.Place
header_line n epoch (Some kinds.Item) first others = Err reasons.Place
header_line n epoch (Some kinds.Hold) first others = Err reasons.Place
header_line n epoch (Some kinds.Counter) first others = Err reasons.Place
header_line n epoch (Some kinds.Frame) first others = Err reasons.Place
header_line n epoch (Some kinds.At) first others = Err reasons.Place
header_line n epoch (Some kinds.From) first others = Err reasons.Place
header_line n epoch (Some kinds.Every) first others = Err reasons.Place
header_line n epoch (Some kinds.Tick) first others = Err reasons.Place
header_line n epoch (Some kinds.End) first others = Err reasons.Place

-- ---- all lines

-- lines of the header, or lines of frames, in front of a schedule
abbrev pub with_head : List Timed → Result Schedule PlanFault → Result Schedule PlanFault
with_head front (Ok s) = Ok (record s { head = front ++ s.head })
with_head front (Err fault) = Err fault

abbrev pub with_front : List Timed → Result Schedule PlanFault → Result Schedule PlanFault
with_front front (Ok s) = Ok (record s { lines = front ++ s.lines })
with_front front (Err fault) = Err fault

abbrev pub then_head : ℕ → Result Made PlanReason → (Stage → Result Schedule PlanFault) → Result Schedule PlanFault
then_head n (Ok made) next = with_head made.lines (next made.stage)
then_head n (Err reason) next = Err (fault_on n reason)

abbrev pub then_front : ℕ → Result Made PlanReason → (Stage → Result Schedule PlanFault) → Result Schedule PlanFault
then_front n (Ok made) next = with_front made.lines (next made.stage)
then_front n (Err reason) next = Err (fault_on n reason)

-- what a line of words says
abbrev pub opening_said : ℕ → List (List ℕ) → Result Made PlanReason
opening_said n [] = Err reasons.Word
opening_said n (first ∷ others) = opening_line n (kind_of first) first others

abbrev pub header_said : ℕ → Epoch → List (List ℕ) → Result Made PlanReason
header_said n epoch [] = Err reasons.Word
header_said n epoch (first ∷ others) = header_line n epoch (kind_of first) first others

abbrev pub course_said : List Command → Course → ℕ → List (List ℕ) → Result Made PlanReason
course_said cs c n [] = Err reasons.Word
course_said cs c n (first ∷ others) = course_line cs c n (kind_of first) first others

-- nothing may stand behind `end`
abbrev pub ended_said : List (List ℕ) → Result Made PlanReason
ended_said [] = Err reasons.Word
ended_said (first ∷ others) = Err reasons.Behind

abbrev pub staged : List Command → Stage → Numbered → (Stage → Result Schedule PlanFault) → Result Schedule PlanFault
staged cs stages.Opening line next = then_head line.number (opening_said line.number line.words) next
staged cs (stages.Header epoch) line next = then_head line.number (header_said line.number epoch line.words) next
staged cs (stages.Frames c) line next = then_front line.number (course_said cs c line.number line.words) next
staged cs (stages.Ended frames last) line next = then_front line.number (ended_said line.words) next

-- a plan ends with `end`
abbrev pub finished : Stage → ℕ → Result Schedule PlanFault
finished stages.Opening n = Err (fault_on n reasons.End)
finished (stages.Header epoch) n = Err (fault_on n reasons.End)
finished (stages.Frames c) n = Err (fault_on n reasons.End)
finished (stages.Ended frames last) n = Ok (record { head = []; lines = []; frames = frames; last = last })

-- what lines say, of which the first would have number n
unfoldable pub lines_said : List Command → Stage → ℕ → List Numbered → Result Schedule PlanFault
lines_said cs stage n [] = finished stage n
lines_said cs stage n (line ∷ more) = staged cs stage line (λ s. lines_said cs s (line.number + 1) more)

-- what a plan says
unfoldable pub schedule_said : List Command → List ℕ → Result Schedule PlanFault
schedule_said cs text = lines_said cs stages.Opening 1 (kept_of 1 text)

-- ---- what the code gives

-- the texts behind others that a line makes, and how far the plan has come
pub record Scheduled : Type 0 where
  pub texts : List LineText
  pub stage : Stage

abbrev pub scheduled : List LineText → Result Made PlanReason → Result Scheduled PlanReason
scheduled front (Ok made) = Ok (record { texts = front ++ map shown made.lines; stage = made.stage })
scheduled front (Err reason) = Err reason

-- what is said is in the new texts; a reason is told only where there is one; and memory may end
abbrev pub GivesStage : Result Scheduled PlanReason → List LineText → Result Stage LineError → Type 0
GivesStage said new (Ok stage) = said ≡ Ok (record { texts = new; stage = stage })
GivesStage said new (Err (line_errors.Memory e)) = Unit {0}
GivesStage said new (Err (line_errors.Because reason)) = said ≡ Err reason

-- `said` is a heading or the end: it makes no line
abbrev pub stage_of : Result Made PlanReason → Result Stage PlanReason
stage_of (Ok made) = Ok made.stage
stage_of (Err reason) = Err reason
