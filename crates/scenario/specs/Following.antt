-- What the fields of the machine of one line are, after what stood before.
use Rattle.std.specs.Prelude.{◌≡◌, ◌<◌, ◌≤◌, ◌+◌, ℕ, List, true, false, if◌then◌else◌, length, Option, Some, None, Ok}
use Rattle.memory_window.specs.Regions.{map_fault_of}
use Rattle.scenario.specs.declared.sentence.Sentence.{Sentence}
use Rattle.scenario.specs.declared.sentence.Sentence.TheVariants as says
use Rattle.scenario.specs.declared.progress.Progress.{Progress}
use Rattle.scenario.specs.FrameLists.{Frame, no_items, items_in}
use Rattle.scenario.specs.Frames.{place_after, epoch_of, regions_of, frame_of, ticks_of, header_of}
use Rattle.scenario.specs.Sentences.{IsPlaced, stands_at}
use Rattle.scenario.specs.Texts.{Before, is_too_long, reads, passed}
use Rattle.scenario.specs.declared.sentence.Verb.TheVariants as verbs

-- the frame that has begun
abbrev pub begun : Progress → Frame
begun p = if p.shown then no_items else p.frame.value

-- the fields are those after what stood before
pub record Follows (p : Progress) (old : Before) : Type 0 where
  pub place : p.place ≡ place_after old.sentences
  pub epoch : p.epoch ≡ epoch_of old.sentences
  pub regions : p.regions ≡ regions_of old.sentences
  pub header : p.header ≡ header_of old.sentences
  pub frame : begun p ≡ frame_of old.sentences
  pub ticks : p.ticks ≡ ticks_of old.sentences
  pub lines : p.lines ≡ old.lines
  pub bytes : p.bytes ≡ old.bytes

-- there is room for a sentence
abbrev pub HasRoom : Progress → Sentence → Type 0
HasRoom p (says.Epoch n) = Unit {0}
HasRoom p (says.Region r) = length p.regions < 8
HasRoom p says.Start = map_fault_of p.regions ≡ None
HasRoom p (says.Send q) = items_in p.frame.value < 64
HasRoom p (says.Count c) = items_in p.frame.value < 64
HasRoom p (says.Upset u) = items_in p.frame.value < 64
HasRoom p (says.Hold a) = items_in p.frame.value < 64
HasRoom p (says.Activate n) = items_in p.frame.value < 64
HasRoom p says.Tick = p.ticks < 100000
HasRoom p says.End = Unit {0}

-- there is room for what a line says
abbrev pub HasRoomFor : Progress → Option Sentence → Type 0
HasRoomFor p None = Unit {0}
HasRoomFor p (Some s) = HasRoom p s

-- the frame that was shown or that has begun is kept, and no frame is shown unless a `tick` was said
pub record KeepsFrame (p : Progress) (said : Option Sentence) (q : Progress) : Type 0 where
  pub tick : said ≡ Some says.Tick → (q.shown ≡ true) × (q.frame.value ≡ p.frame.value)
  pub shown : q.shown ≡ true → said ≡ Some says.Tick

-- one more packet may be sent by a line that takes so many bytes
pub record CanSend (p : Progress) (line : List ℕ) (takes : ℕ) : Type 0 where
  pub short : (old : Before) → Follows p old → is_too_long old (record { bytes = line; takes = takes }) ≡ false
  pub small : p.bytes + takes ≤ 16777216
  pub stands : stands_at p.place verbs.Send ≡ true
  pub room : items_in p.frame.value < 64

-- a good line that sends a packet was read and passed
pub record PassesSend (p : Progress) (line : List ℕ) (takes : ℕ) (q : Progress) : Type 0 where
  pub packet : List ℕ
  pub placed : IsPlaced p.place (Some (says.Send packet))
  pub good : (old : Before) → Follows p old → Ok (Some (says.Send packet)) ≡ reads old (record { bytes = line; takes = takes })
  pub follows : (old : Before) (text : List ℕ) → Follows p old → Follows q (passed old (record { bytes = text; takes = takes }) (Some (says.Send packet)))
  pub keeps : KeepsFrame p (Some (says.Send packet)) q
