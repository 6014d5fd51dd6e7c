-- The items of a scenario and of a plan, by the frames in which they stand.
use Rattle.std.specs.Prelude.{ℕ, ◌+◌, List, [], ◌∷◌, ◌++◌, Option, Some, None, Result, Ok, Err}
use Rattle.telecommands.specs.declared.command.Command.{Command}
use Rattle.telecommands.specs.declared.fault.CommandFault.{CommandFault}
use Rattle.table_texts.specs.Lines.{Numbered}
use Rattle.plan_text.specs.declared.fault.PlanReason.{PlanReason}
use Rattle.plan_text.specs.declared.stage.Course.{Course}
use Rattle.plan_text.specs.declared.stage.Stage.{Stage}
use Rattle.plan_text.specs.declared.stage.Stage.TheVariants as stages
use Rattle.plan_text.specs.declared.verb.Verb.{Verb}
use Rattle.plan_text.specs.declared.verb.Verb.TheVariants as verbs
use Rattle.plan_text.specs.Verbs.{verb_of}
use Rattle.plan_text.specs.Lines.{sent_line}
use Rattle.plan_text.specs.Plans.{Made, packet_sent, line_said}

-- an item of a frame: the frame's number, and the words of the item's line
pub record FrameItem : Type 0 where
  pub frame : ℕ
  pub line : List (List ℕ)

abbrev pub item_at : ℕ → List (List ℕ) → List FrameItem
item_at n line = record { frame = n; line = line } ∷ []

-- ---- of a scenario, by its lines

abbrev pub verb_in : List (List ℕ) → Option Verb
verb_in [] = None
verb_in (w ∷ ws) = verb_of w

-- a line of this kind in the frame of this number
abbrev pub items_by : ℕ → Option Verb → List (List ℕ) → List FrameItem
items_by n None line = []
items_by n (Some verbs.Epoch) line = []
items_by n (Some verbs.Region) line = []
items_by n (Some verbs.Start) line = []
items_by n (Some verbs.Send) line = item_at n line
items_by n (Some verbs.Item) line = item_at n line
items_by n (Some verbs.Frame) line = []
items_by n (Some verbs.At) line = []
items_by n (Some verbs.Tick) line = []
items_by n (Some verbs.End) line = []

-- how many frames a line of this kind ends
abbrev pub ticks_by : Option Verb → ℕ
ticks_by None = 0
ticks_by (Some verbs.Epoch) = 0
ticks_by (Some verbs.Region) = 0
ticks_by (Some verbs.Start) = 0
ticks_by (Some verbs.Send) = 0
ticks_by (Some verbs.Item) = 0
ticks_by (Some verbs.Frame) = 0
ticks_by (Some verbs.At) = 0
ticks_by (Some verbs.Tick) = 1
ticks_by (Some verbs.End) = 0

-- how many frames lines end
unfoldable pub ticks_in : List (List (List ℕ)) → ℕ
ticks_in [] = 0
ticks_in (line ∷ more) = ticks_by (verb_in line) + ticks_in more

-- the items of lines, each with the number of ticks before it, where so many came before all
unfoldable pub items_of : ℕ → List (List (List ℕ)) → List FrameItem
items_of n [] = []
items_of n (line ∷ more) = items_by n (verb_in line) line ++ items_of (n + ticks_by (verb_in line)) more

-- ---- of a plan, by the frame that has come

abbrev pub sent_item : ℕ → Result (List ℕ) CommandFault → List FrameItem
sent_item n (Ok packet) = item_at n (sent_line packet)
sent_item n (Err fault) = []

abbrev pub course_items : List Command → Course → Option Verb → List ℕ → List (List ℕ) → List FrameItem
course_items cs c None first others = []
course_items cs c (Some verbs.Epoch) first others = []
course_items cs c (Some verbs.Region) first others = []
course_items cs c (Some verbs.Start) first others = []
course_items cs c (Some verbs.Send) first others = sent_item c.frame (packet_sent cs c.epoch others)
course_items cs c (Some verbs.Item) first others = item_at c.frame (first ∷ others)
course_items cs c (Some verbs.Frame) first others = []
course_items cs c (Some verbs.At) first others = []
course_items cs c (Some verbs.Tick) first others = []
course_items cs c (Some verbs.End) first others = []

abbrev pub staged_items : List Command → Stage → Option Verb → List ℕ → List (List ℕ) → List FrameItem
staged_items cs stages.Opening verb first others = []
staged_items cs (stages.Header epoch) verb first others = []
staged_items cs (stages.Frames c) verb first others = course_items cs c verb first others
staged_items cs stages.Ended verb first others = []

-- the item that a line says, where the plan has come so far
abbrev pub line_items : List Command → Stage → List (List ℕ) → List FrameItem
line_items cs stage [] = []
line_items cs stage (first ∷ others) = staged_items cs stage (verb_of first) first others

abbrev pub items_behind : Result Made PlanReason → (Stage → List FrameItem) → List FrameItem
items_behind (Ok made) next = next made.stage
items_behind (Err reason) next = []

-- the items that a plan's lines say, each with the number of the frame that has come
unfoldable pub plan_items : List Command → Stage → List Numbered → List FrameItem
plan_items cs stage [] = []
plan_items cs stage (line ∷ more) =
    line_items cs stage line.words ++ items_behind (line_said cs stage line.words) (λ s. plan_items cs s more)
