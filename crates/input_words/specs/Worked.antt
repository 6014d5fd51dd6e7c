-- Lines of what a scenario does, written out.
use Rattle.std.specs.Prelude.{ℕ, List, [], ◌∷◌, codes, Some}
use Rattle.packet_forms.specs.Names.{name_of}
use Rattle.packet_forms.specs.declared.name.Counter.{Counter}
use Rattle.scenario.specs.FrameLists.{Frame, no_items}
use Rattle.log_words.specs.Worked.{own_words}
use Rattle.input_words.specs.declared.inputs.FrameTime.{FrameTime}
use Rattle.input_words.specs.declared.counters.WatchedCounter.{WatchedCounter}
use Rattle.input_words.specs.Inputs.{inputs_told}
use Rattle.input_words.specs.Counters.{watched_behind}

-- frame n of a scenario that begins at 1000
abbrev pub second : ℕ → FrameTime
second n = record { epoch = Some 1000; frame = n }

-- what a frame gives, in the names of the bench's applications and with no FILE
abbrev pub told : FrameTime → Frame → List ℕ
told t f = inputs_told own_words [] t f

abbrev pub one_upset : ℕ → ℕ → Frame
one_upset at value = record no_items { upsets = record { at = at; value = value } ∷ [] }

abbrev pub one_packet : List ℕ → Frame
one_packet bytes = record no_items { sends = bytes ∷ [] }

-- a counter
abbrev pub counted : List ℕ → ℕ → Counter
counted name value = record { name = name_of name; value = value }

-- the counters that are watched behind frames with these values of LOAD's counter
abbrev pub behind_loads : List ℕ → List WatchedCounter
behind_loads [] = []
behind_loads (value ∷ before) = watched_behind (behind_loads before) (counted (codes "LOAD") value ∷ [])
