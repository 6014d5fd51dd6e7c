-- What a reader answers.
use Rattle.std.specs.Prelude.{ℕ, Bool, true, false, Option, Some, None}
use Rattle.scenario.specs.declared.item.Item.{Item as Answer}
use Rattle.scenario.specs.declared.item.Item.TheVariants as answers
use Rattle.scenario.specs.declared.sentence.Place.{Place}
use Rattle.scenario.specs.declared.sentence.Place.TheVariants as places
use Rattle.scenario.specs.declared.sentence.Sentence.{Sentence}
use Rattle.scenario.specs.declared.sentence.Sentence.TheVariants as says
use Rattle.scenario.specs.Reasons.{number_of}
use Rattle.scenario.specs.Texts.{Ending, Bad, Ended, Unended, Open}

-- what is answered where all items were given
abbrev pub answer_at_end : Ending → Answer
answer_at_end (Bad line reason) = answers.Bad line (number_of reason)
answer_at_end Ended = answers.End
answer_at_end (Unended lines) = answers.Bad lines 7
answer_at_end Open = answers.More

-- what is answered at a line that gives an item
abbrev pub item_said : Option Sentence → Option Answer
item_said None = None
item_said (Some (says.Epoch n)) = None
item_said (Some (says.Region r)) = None
item_said (Some says.Start) = Some answers.Header
item_said (Some (says.Send p)) = None
item_said (Some (says.Count c)) = None
item_said (Some (says.Upset u)) = None
item_said (Some (says.Hold a)) = None
item_said (Some (says.Activate n)) = None
item_said (Some says.Tick) = Some answers.Frame
item_said (Some says.End) = None

-- what is answered where no line is left
abbrev pub end_answer : Bool → Place → ℕ → Answer
end_answer false place lines = answers.More
end_answer true places.Opening lines = answers.Bad lines 7
end_answer true places.Header lines = answers.Bad lines 7
end_answer true places.Between lines = answers.Bad lines 7
end_answer true places.Inside lines = answers.Bad lines 7
end_answer true places.Ended lines = answers.End

-- no item was answered
abbrev pub IsLast : Answer → Type 0
IsLast answers.Header = ⊥
IsLast answers.Frame = ⊥
IsLast answers.End = Unit {0}
IsLast answers.More = Unit {0}
IsLast (answers.Bad line reason) = Unit {0}

-- an item was answered
abbrev pub IsItem : Answer → Type 0
IsItem answers.Header = Unit {0}
IsItem answers.Frame = Unit {0}
IsItem answers.End = ⊥
IsItem answers.More = ⊥
IsItem (answers.Bad line reason) = ⊥
