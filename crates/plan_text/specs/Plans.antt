-- What the lines of a plan say: the lines of a scenario.
use Rattle.std.specs.Prelude.{◌≡◌, ℕ, ◌+◌, ◌-◌, ◌==◌, ◌&&◌, if◌then◌else◌, nat_lt, List, [], ◌∷◌, ◌++◌, replicate, codes, Option, Some, None, Result, Ok, Err}
use Rattle.std.proofs.Common.{Bor}
use Rattle.std.specs.Str.{bytes_eq}
use Rattle.row_forms.specs.Words.{number, hex_said}
use Rattle.row_forms.specs.Numbers.{time_said}
use Rattle.row_forms.specs.Rows.{fault_at}
use Rattle.row_forms.specs.declared.fault.Reason.{Reason}
use Rattle.row_forms.specs.declared.fault.Reason.TheVariants as words
use Rattle.telecommands.specs.declared.command.Command.{Command}
use Rattle.telecommands.specs.declared.fault.CommandFault.{CommandFault}
use Rattle.telecommands.specs.declared.fault.CommandFault.TheVariants as commands
use Rattle.telecommands.specs.Commands.{packet_said, command_said}
use Rattle.table_texts.specs.Lines.{Numbered, kept_of}
use Rattle.plan_text.specs.declared.fault.PlanReason.{PlanReason}
use Rattle.plan_text.specs.declared.fault.PlanReason.TheVariants as reasons
use Rattle.plan_text.specs.declared.fault.PlanFault.{PlanFault}
use Rattle.plan_text.specs.declared.fault.LineError.{LineError}
use Rattle.plan_text.specs.declared.fault.LineError.TheVariants as line_errors
use Rattle.plan_text.specs.declared.fault.PlanError.{PlanError}
use Rattle.plan_text.specs.declared.fault.PlanError.TheVariants as errors
use Rattle.plan_text.specs.declared.stage.Course.{Course}
use Rattle.plan_text.specs.declared.stage.Stage.{Stage}
use Rattle.plan_text.specs.declared.stage.Stage.TheVariants as stages
use Rattle.plan_text.specs.declared.verb.Verb.{Verb}
use Rattle.plan_text.specs.declared.verb.Verb.TheVariants as verbs
use Rattle.plan_text.specs.Verbs.{verb_of}
use Rattle.plan_text.specs.Lines.{text_of, tick, end, sent_line}

infixl 10 ◌>>=◌
-- go on with a value, or stop with its reason
abbrev pub ◌>>=◌ : {A B : Type 0} → Result A PlanReason → (A → Result B PlanReason) → Result B PlanReason
(Ok x) >>= f = f x
(Err reason) >>= f = Err reason

-- the value, or this reason where there is none
abbrev pub or_else : {A : Type 0} → PlanReason → Option A → Result A PlanReason
or_else reason (Some x) = Ok x
or_else reason None = Err reason

-- a fault of the n-th word
abbrev pub word_fault : ℕ → Reason → PlanReason
word_fault n reason = reasons.Row (fault_at n reason)

-- what a line makes: lines of the scenario, and how far the plan has come behind it
pub record Made : Type 0 where
  pub lines : List (List (List ℕ))
  pub stage : Stage

-- a line by itself
abbrev pub passed : Stage → List (List ℕ) → Result Made PlanReason
passed stage line = Ok (record { lines = line ∷ []; stage = stage })

-- no word stands where the n-th would
abbrev pub none : ℕ → List (List ℕ) → Result (Unit {0}) PlanReason
none n [] = Ok tt
none n (w ∷ ws) = Err (word_fault n words.Extra)

-- the n-th word, which is the last one
abbrev pub one : ℕ → List (List ℕ) → Result (List ℕ) PlanReason
one n [] = Err (word_fault n words.Missing)
one n (w ∷ []) = Ok w
one n (w ∷ v ∷ ws) = Err (word_fault (n + 1) words.Extra)

-- `epoch N`
abbrev pub epoch_line : List ℕ → List (List ℕ) → Result Made PlanReason
epoch_line first others = do
  word ← one 2 others
  epoch ← or_else reasons.Epoch (number 4294000000 word)
  passed (stages.Header epoch) (first ∷ others)

-- `start`
abbrev pub start_line : ℕ → List ℕ → List (List ℕ) → Result Made PlanReason
start_line epoch first others = do
  _ ← none 2 others
  passed (stages.Frames (record { epoch = epoch; frame = 0; items = 0 })) (first ∷ others)

-- the frame of this number has come
abbrev pub moved : Course → ℕ → Course
moved c n = if n == c.frame then c else record { epoch = c.epoch; frame = n; items = 0 }

-- up to the frame of this number
unfoldable pub forwarded : Course → ℕ → Result Made PlanReason
forwarded c n =
    if nat_lt n c.frame then Err reasons.Past
    else if nat_lt 100000 n then Err reasons.Frames
    else Ok (record { lines = replicate (n - c.frame) tick; stage = stages.Frames (moved c n) })

-- the end in front of the frame of this number
unfoldable pub closed : Course → ℕ → Result Made PlanReason
closed c n =
    if nat_lt n c.frame then Err reasons.Past
    else if nat_lt 100000 n then Err reasons.Frames
    else if (n == c.frame) && nat_lt 0 c.items then Err reasons.Begun
    else Ok (record { lines = replicate (n - c.frame) tick ++ end ∷ []; stage = stages.Ended })

abbrev pub frame_at : ℕ → ℕ → Option ℕ → Result ℕ PlanReason
frame_at epoch n None = Err (word_fault n words.Time)
frame_at epoch n (Some second) = if nat_lt second epoch then Err reasons.Early else Ok (second - epoch)

-- the frame of the time that the n-th word says
unfoldable pub frame_of_time : ℕ → ℕ → List ℕ → Result ℕ PlanReason
frame_of_time epoch n word = frame_at epoch n (time_said (Some epoch) 4294967295 word)

-- the frame of the time that is the n-th word and the last one
abbrev pub time_line : ℕ → ℕ → List (List ℕ) → Result ℕ PlanReason
time_line epoch n others = do
  word ← one n others
  frame_of_time epoch n word

-- `at TIME`
abbrev pub at_line : Course → List (List ℕ) → Result Made PlanReason
at_line c others = do
  n ← time_line c.epoch 2 others
  forwarded c n

-- `frame N`
abbrev pub frame_line : Course → List (List ℕ) → Result Made PlanReason
frame_line c others = do
  word ← one 2 others
  n ← or_else (word_fault 2 words.Number32) (number 4294967295 word)
  forwarded c n

-- `tick`
abbrev pub tick_line : Course → List (List ℕ) → Result Made PlanReason
tick_line c others = do
  _ ← none 2 others
  forwarded c (c.frame + 1)

-- the frame behind the last one that has items
abbrev pub last_of : Course → ℕ
last_of c = if c.items == 0 then c.frame else c.frame + 1

-- `end`, or `end at TIME`
abbrev pub end_line : Course → List (List ℕ) → Result Made PlanReason
end_line c [] = closed c (last_of c)
end_line c (word ∷ others) =
    if bytes_eq word (codes "at") then time_line c.epoch 3 others >>= (λ n. closed c n)
    else Err (word_fault 2 words.Extra)

-- the frame that has come, with one item more
abbrev pub one_more : Course → Result Course PlanReason
one_more c = if nat_lt c.items 64 then Ok (record { epoch = c.epoch; frame = c.frame; items = c.items + 1 }) else Err reasons.Items

-- a line that is one more item of the frame that has come
abbrev pub item_line : Course → List (List ℕ) → Result Made PlanReason
item_line c line = do
  more ← one_more c
  passed (stages.Frames more) line

abbrev pub sent_by : List Command → ℕ → Option (List ℕ) → List (List ℕ) → List (List ℕ) → Result (List ℕ) CommandFault
sent_by cs epoch (Some bytes) line others = packet_said 2 (Some bytes) others
sent_by cs epoch None line others = command_said (Some epoch) 2 cs line

-- the packet that the words behind `send` say: its bytes, or a telecommand
unfoldable pub packet_sent : List Command → ℕ → List (List ℕ) → Result (List ℕ) CommandFault
packet_sent cs epoch [] = Err (commands.Row (fault_at 2 words.Missing))
packet_sent cs epoch (w ∷ ws) = sent_by cs epoch (hex_said w) (w ∷ ws) ws

abbrev pub as_plan : Result (List ℕ) CommandFault → Result (List ℕ) PlanReason
as_plan (Ok packet) = Ok packet
as_plan (Err fault) = Err (reasons.Command fault)

-- `send HEX`, or `send TELECOMMAND`
abbrev pub send_line : List Command → Course → List (List ℕ) → Result Made PlanReason
send_line cs c others = do
  packet ← as_plan (packet_sent cs c.epoch others)
  item_line c (sent_line packet)

-- a line before all others
abbrev pub opening_line : Verb → List ℕ → List (List ℕ) → Result Made PlanReason
opening_line verbs.Epoch first others = epoch_line first others
opening_line verbs.Region first others = Err reasons.Place
opening_line verbs.Start first others = Err reasons.Place
opening_line verbs.Send first others = Err reasons.Place
opening_line verbs.Item first others = Err reasons.Place
opening_line verbs.Frame first others = Err reasons.Place
opening_line verbs.At first others = Err reasons.Place
opening_line verbs.Tick first others = Err reasons.Place
opening_line verbs.End first others = Err reasons.Place

-- a line behind `epoch` and before `start`
abbrev pub header_line : ℕ → Verb → List ℕ → List (List ℕ) → Result Made PlanReason
header_line epoch verbs.Epoch first others = Err reasons.Place
header_line epoch verbs.Region first others = passed (stages.Header epoch) (first ∷ others)
header_line epoch verbs.Start first others = start_line epoch first others
header_line epoch verbs.Send first others = Err reasons.Place
header_line epoch verbs.Item first others = Err reasons.Place
header_line epoch verbs.Frame first others = Err reasons.Place
header_line epoch verbs.At first others = Err reasons.Place
header_line epoch verbs.Tick first others = Err reasons.Place
header_line epoch verbs.End first others = Err reasons.Place

-- a line behind `start`
abbrev pub course_line : List Command → Course → Verb → List ℕ → List (List ℕ) → Result Made PlanReason
course_line cs c verbs.Epoch first others = Err reasons.Place
course_line cs c verbs.Region first others = Err reasons.Place
course_line cs c verbs.Start first others = Err reasons.Place
course_line cs c verbs.Send first others = send_line cs c others
course_line cs c verbs.Item first others = item_line c (first ∷ others)
course_line cs c verbs.Frame first others = frame_line c others
course_line cs c verbs.At first others = at_line c others
course_line cs c verbs.Tick first others = tick_line c others
course_line cs c verbs.End first others = end_line c others

-- a line of this kind, where the plan has come so far
abbrev pub staged : List Command → Stage → Verb → List ℕ → List (List ℕ) → Result Made PlanReason
staged cs stages.Opening verb first others = opening_line verb first others
staged cs (stages.Header epoch) verb first others = header_line epoch verb first others
staged cs (stages.Frames c) verb first others = course_line cs c verb first others
staged cs stages.Ended verb first others = Err reasons.Behind

abbrev pub of_verb : List Command → Stage → Option Verb → List ℕ → List (List ℕ) → Result Made PlanReason
of_verb cs stage (Some verb) first others = staged cs stage verb first others
of_verb cs stage None first others = Err reasons.Word

-- what a line's words make, where the plan has come so far
unfoldable pub line_said : List Command → Stage → List (List ℕ) → Result Made PlanReason
line_said cs stage [] = Err reasons.Word
line_said cs stage (first ∷ others) = of_verb cs stage (verb_of first) first others

abbrev pub fault_on : ℕ → PlanReason → PlanFault
fault_on n reason = record { line = n; reason = reason }

-- a plan ends with `end`
abbrev pub finished : Stage → ℕ → Result (List (List (List ℕ))) PlanFault
finished stages.Opening n = Err (fault_on n reasons.End)
finished (stages.Header epoch) n = Err (fault_on n reasons.End)
finished (stages.Frames c) n = Err (fault_on n reasons.End)
finished stages.Ended n = Ok []

abbrev pub with_lines : List (List (List ℕ)) → Result (List (List (List ℕ))) PlanFault → Result (List (List (List ℕ))) PlanFault
with_lines front (Ok lines) = Ok (front ++ lines)
with_lines front (Err fault) = Err fault

abbrev pub then_lines : ℕ → Result Made PlanReason → (Stage → Result (List (List (List ℕ))) PlanFault) → Result (List (List (List ℕ))) PlanFault
then_lines n (Ok made) next = with_lines made.lines (next made.stage)
then_lines n (Err reason) next = Err (fault_on n reason)

-- what lines make, of which the first would have number n
unfoldable pub lines_said : List Command → Stage → ℕ → List Numbered → Result (List (List (List ℕ))) PlanFault
lines_said cs stage n [] = finished stage n
lines_said cs stage n (line ∷ more) =
    then_lines line.number (line_said cs stage line.words) (λ s. lines_said cs s (line.number + 1) more)

-- the lines of the scenario that a plan is
unfoldable pub plan_said : List Command → List ℕ → Result (List (List (List ℕ))) PlanFault
plan_said cs text = lines_said cs stages.Opening 1 (kept_of 1 text)

abbrev pub with_text : List ℕ → Result (List (List (List ℕ))) PlanFault → Result (List ℕ) PlanFault
with_text front (Ok lines) = Ok (front ++ text_of lines)
with_text front (Err fault) = Err fault

-- the scenario that a plan is
abbrev pub scenario_said : List Command → List ℕ → Result (List ℕ) PlanFault
scenario_said cs text = with_text [] (plan_said cs text)

-- ---- what the code gives

-- the text behind others that a line makes, and how far the plan has come
pub record Written : Type 0 where
  pub text : List ℕ
  pub stage : Stage

abbrev pub written : List ℕ → Result Made PlanReason → Result Written PlanReason
written front (Ok made) = Ok (record { text = front ++ text_of made.lines; stage = made.stage })
written front (Err reason) = Err reason

-- what is said is the new text; a reason is told only where there is one; and memory may end
abbrev pub GivesLine : Result Written PlanReason → List ℕ → Result Stage LineError → Type 0
GivesLine said new (Ok stage) = said ≡ Ok (record { text = new; stage = stage })
GivesLine said new (Err (line_errors.Memory e)) = Unit {0}
GivesLine said new (Err (line_errors.Because reason)) = said ≡ Err reason

abbrev pub GivesScenario : Result (List ℕ) PlanFault → List ℕ → Result (Unit {0}) PlanError → Type 0
GivesScenario said new (Ok done) = said ≡ Ok new
GivesScenario said new (Err (errors.Memory e)) = Unit {0}
GivesScenario said new (Err (errors.Plan fault)) = said ≡ Err fault

-- nothing is left, or a fault
abbrev pub no_more : Result (Unit {0}) PlanFault → Result (List (List (List ℕ))) PlanFault
no_more (Ok done) = Ok []
no_more (Err fault) = Err fault

-- why the line of this number wasn't read
abbrev pub error_on : ℕ → LineError → PlanError
error_on n (line_errors.Memory e) = errors.Memory e
error_on n (line_errors.Because reason) = errors.Plan (fault_on n reason)

-- the n-th word, which is the last one
abbrev pub GivesWord : ℕ → List (List ℕ) → Result (Bor (List ℕ)) PlanReason → Type 0
GivesWord n others (Ok word) = one n others ≡ Ok word.now
GivesWord n others (Err reason) = one n others ≡ Err reason
