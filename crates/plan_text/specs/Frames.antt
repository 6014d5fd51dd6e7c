-- The header and the frames that the lines of a scenario say.
use Rattle.std.specs.Prelude.{ℕ, zero, suc, ◌+◌, ◌==◌, if◌then◌else◌, List, [], ◌∷◌, Result, Ok, Err}
use Rattle.scenario.specs.declared.reason.Reason.{Reason}
use Rattle.scenario.specs.declared.reason.Reason.TheVariants as reasons
use Rattle.scenario.specs.declared.sentence.Sentence.{Sentence}
use Rattle.scenario.specs.declared.sentence.Sentence.TheVariants as says
use Rattle.scenario.specs.Sentences.{◌>>=◌, or_bad, verb_of, sentence_of}
use Rattle.scenario.specs.FrameLists.{Frame, no_items}
use Rattle.scenario.specs.Frames.{epoch_of, regions_of, with_item}
use Rattle.scenario.specs.Texts.{Given, Head, Whole}
use Rattle.plan_text.specs.Items.{FrameItem}

-- what a line says by its words, wherever it stands
abbrev pub sentence_said : List (List ℕ) → Result Sentence Reason
sentence_said [] = Err reasons.Word
sentence_said (first ∷ others) = or_bad reasons.Word (verb_of first) >>= (λ verb. sentence_of verb others)

-- a frame with what one more line says
abbrev pub with_said : Frame → Result Sentence Reason → Frame
with_said f (Ok s) = with_item f s
with_said f (Err reason) = f

-- a frame with the items of this number behind its own
unfoldable pub with_items_of : ℕ → Frame → List FrameItem → Frame
with_items_of n f [] = f
with_items_of n f (i ∷ more) = with_items_of n (if i.frame == n then with_said f (sentence_said i.line) else f) more

-- so many frames from number n on, each with the items of its number
unfoldable pub frames_said : ℕ → ℕ → List FrameItem → List Given
frames_said zero n items = []
frames_said (suc k) n items = Whole (with_items_of n no_items items) ∷ frames_said k (n + 1) items

abbrev pub head_behind : List Sentence → Result Sentence Reason → (List Sentence → Given) → Given
head_behind old (Ok (says.Epoch n)) next = next (says.Epoch n ∷ old)
head_behind old (Ok (says.Region r)) next = next (says.Region r ∷ old)
head_behind old (Ok says.Start) next = Head (epoch_of old) (regions_of old)
head_behind old (Ok (says.Send p)) next = next old
head_behind old (Ok (says.Count c)) next = next old
head_behind old (Ok (says.Upset u)) next = next old
head_behind old (Ok (says.Hold a)) next = next old
head_behind old (Ok (says.Activate n)) next = next old
head_behind old (Ok says.Tick) next = next old
head_behind old (Ok says.End) next = next old
head_behind old (Err reason) next = next old

-- the header: the epoch and the regions that the lines before `start` say, behind those sentences
unfoldable pub head_said : List Sentence → List (List (List ℕ)) → Given
head_said old [] = Head 0 []
head_said old (line ∷ more) = head_behind old (sentence_said line) (λ old. head_said old more)
