-- What good lines come to. They are given as their sentences, the newest first.
use Rattle.std.specs.Prelude.{ℕ, ◌+◌, Bool, true, false, if◌then◌else◌, nat_lt, List, [], ◌∷◌, ◌++◌, length, Option, Some, None, is_none}
use Rattle.memory_window.specs.declared.regions.Region.{Region as MemRegion}
use Rattle.memory_window.specs.Regions.{map_fault_of, is_mapped}
use Rattle.scenario.specs.declared.reason.Reason.{Reason}
use Rattle.scenario.specs.declared.reason.Reason.TheVariants as reasons
use Rattle.scenario.specs.declared.sentence.Place.{Place}
use Rattle.scenario.specs.declared.sentence.Place.TheVariants as places
use Rattle.scenario.specs.declared.sentence.Sentence.{Sentence}
use Rattle.scenario.specs.declared.sentence.Sentence.TheVariants.{Epoch, Region, Start, Send, Count, Upset, Hold, Activate, Tick, End}
use Rattle.scenario.specs.declared.progress.Header.{Header}
use Rattle.scenario.specs.FrameLists.{Frame, no_items, items_in}

-- where the line behind a good one stands
abbrev pub place_behind : Sentence → Place
place_behind (Epoch n) = places.Header
place_behind (Region r) = places.Header
place_behind Start = places.Between
place_behind (Send p) = places.Inside
place_behind (Count c) = places.Inside
place_behind (Upset u) = places.Inside
place_behind (Hold a) = places.Inside
place_behind (Activate n) = places.Inside
place_behind Tick = places.Between
place_behind End = places.Ended

-- where the line behind these good ones stands
abbrev pub place_after : List Sentence → Place
place_after [] = places.Opening
place_after (s ∷ old) = place_behind s

-- the time of the first frame
abbrev pub epoch_of : List Sentence → ℕ
epoch_of [] = 0
epoch_of (Epoch n ∷ old) = n
epoch_of (_ ∷ old) = epoch_of old

-- the regions, in the order of their lines
abbrev pub regions_of : List Sentence → List MemRegion
regions_of [] = []
regions_of (Region r ∷ old) = regions_of old ++ r ∷ []
regions_of (_ ∷ old) = regions_of old

-- the header, once `start` was said
abbrev pub header_of : List Sentence → Option Header
header_of [] = None
header_of (Start ∷ old) = Some (record { epoch = epoch_of old; map = regions_of old })
header_of (_ ∷ old) = header_of old

-- how many frames were ended
abbrev pub ticks_of : List Sentence → ℕ
ticks_of [] = 0
ticks_of (Tick ∷ old) = ticks_of old + 1
ticks_of (_ ∷ old) = ticks_of old

-- a frame with the item of one more line; a line that is no item begins a frame
abbrev pub with_item : Frame → Sentence → Frame
with_item f (Send p) = record f { sends = f.sends ++ p ∷ [] }
with_item f (Count c) = record f { counters = f.counters ++ c ∷ [] }
with_item f (Upset u) = record f { upsets = f.upsets ++ u ∷ [] }
with_item f (Hold a) = record f { held = f.held ++ a ∷ [] }
with_item f (Activate n) = record f { activations = f.activations ++ n ∷ [] }
with_item f (Epoch n) = no_items
with_item f (Region r) = no_items
with_item f Start = no_items
with_item f Tick = no_items
with_item f End = no_items

-- the frame that has begun: the items back to the last `tick`, or to `start`
abbrev pub frame_of : List Sentence → Frame
frame_of [] = no_items
frame_of (s ∷ old) = with_item (frame_of old) s

-- one more item is refused where the frame has 64 already
abbrev pub room_for_item : List Sentence → Option Reason
room_for_item old = if nat_lt (items_in (frame_of old)) 64 then None else Some reasons.TooMany

-- why a sentence can't stand behind these, beside its place
unfoldable pub refusal : List Sentence → Sentence → Option Reason
refusal old (Epoch n) = None
refusal old (Region r) = if nat_lt (length (regions_of old)) 8 then None else Some reasons.Map
refusal old Start = if is_none (map_fault_of (regions_of old)) then None else Some reasons.Map
refusal old (Send p) = room_for_item old
refusal old (Count c) = room_for_item old
refusal old (Upset u) = if is_mapped (regions_of old) u.at then room_for_item old else Some reasons.Map
refusal old (Hold a) = room_for_item old
refusal old (Activate n) = room_for_item old
refusal old Tick = if nat_lt (ticks_of old) 100000 then None else Some reasons.TooLong
refusal old End = None

-- the place lies behind `start`
abbrev pub is_started : Place → Bool
is_started places.Opening = false
is_started places.Header = false
is_started places.Between = true
is_started places.Inside = true
is_started places.Ended = true
