-- What an answer says of how a text ends.
use Rattle.std.proofs.Common.{◌≡◌, ℕ, refl}
use Rattle.scenario.specs.declared.item.Item.TheVariants as answers
use Rattle.scenario.specs.Texts.{Ending, Bad, Ended, Unended, Open}
use Rattle.scenario.specs.Answers.{answer_at_end}

-- a text of which more is wanted is open
pub open_at_more : (ending : Ending) → answers.More ≡ answer_at_end ending → ending ≡ Open
open_at_more (Bad line reason) is = cc
open_at_more Ended is = cc
open_at_more (Unended lines) is = cc
open_at_more Open is = refl

-- a text that ended well
pub ended_at_end : (ending : Ending) → answers.End ≡ answer_at_end ending → ending ≡ Ended
ended_at_end (Bad line reason) is = cc
ended_at_end Ended is = refl
ended_at_end (Unended lines) is = cc
ended_at_end Open is = cc

-- isn't open
pub not_open_at_end : (ending : Ending) → answers.End ≡ answer_at_end ending → ending ≡ Open → ⊥
not_open_at_end ending is same = let ended = ended_at_end ending is in cc

-- nor is a text that is bad or unended
pub not_open_at_bad : (ending : Ending) (line reason : ℕ) → answers.Bad line reason ≡ answer_at_end ending → ending ≡ Open → ⊥
not_open_at_bad (Bad l r) line reason is same = cc
not_open_at_bad Ended line reason is same = cc
not_open_at_bad (Unended lines) line reason is same = cc
not_open_at_bad Open line reason is same = cc
