-- A line `tick` that a piece begins with, where no line has begun.
use Rattle.std.proofs.Common.{◌≡◌, ℕ, true, false, List, [], ◌∷◌, ◌++◌, take, Ok, Some, refl, arith}
use Rattle.scenario.specs.declared.item.Item.TheVariants as answers
use Rattle.scenario.specs.declared.progress.Progress.{Progress}
use Rattle.scenario.specs.declared.reader.Reader.{Reader}
use Rattle.scenario.specs.declared.sentence.Sentence.TheVariants as says
use Rattle.scenario.specs.Sentences.{IsPlaced}
use Rattle.scenario.specs.Texts.{Text, Before, Given, reads, passed}
use Rattle.scenario.specs.Following.{Follows, KeepsFrame}
use Rattle.scenario.specs.Standing.{Stands, TakesTick, fed, tick_line}
use Rattle.scenario.proofs.StandingLemmas.{stands_begun, stands_fed}
use Rattle.scenario.proofs.NextLemmas.{LooksGood, good_frame, good_stop}

-- the line `tick` without its LF
abbrev pub tick_word : List ℕ
tick_word = 116 ∷ 105 ∷ 99 ∷ 107 ∷ []

-- the reader in which the frame was let go that was shown, and then fed such a line
abbrev pub at_tick : Reader → Progress → Reader
at_tick r begun = record r { line = record r.line { value = tick_word }; whole = true; progress = begun }

-- what is known where such a line was passed
pub record PassesTick (begun after : Progress) : Type 0 where
  pub hidden : begun.shown ≡ false
  pub placed : IsPlaced begun.place (Some says.Tick)
  pub good : (old : Before) → Follows begun old → Ok (Some says.Tick) ≡ reads old (record { bytes = tick_word; takes = 5 })
  pub follows : (old : Before) (line : List ℕ) → Follows begun old → Follows after (passed old (record { bytes = line; takes = 5 }) (Some says.Tick))
  pub keeps : KeepsFrame begun (Some says.Tick) after

looks_good : (r q : Reader) (begun : Progress) → PassesTick begun q.progress → q.line.value ≡ [] → q.whole ≡ false → q.finished ≡ r.finished
    → LooksGood (at_tick r begun) q (Some says.Tick) answers.Frame
looks_good r q begun p empty whole finished = record {
  passes = record {
    line = empty;
    whole = whole;
    finished = finished;
    follows = p.follows;
    keeps = p.keeps;
    answer = refl;
  };
  hidden = p.hidden;
  some = refl;
  placed = p.placed;
  good = p.good;
}

-- it was fed and given
pub taken : (r q : Reader) (begun : Progress) (piece rest : List ℕ) → r.line.value ≡ [] → r.whole ≡ false → r.finished ≡ false
    → q.line.value ≡ [] → q.whole ≡ false → q.finished ≡ r.finished
    → ((old : Before) → Follows r.progress old → Follows begun old) → PassesTick begun q.progress → piece ≡ tick_line ++ rest
    → (t : Text) (gave : List Given) → Stands r t gave → TakesTick true piece t gave q
taken r q begun piece rest empty unwhole unfinished empty_then unwhole_then finished_then follows p front t gave s =
    let front_is : take 5 piece ≡ tick_line = rw front refl in
    let looks = looks_good r q begun p empty_then unwhole_then finished_then in
    let begins = stands_begun r (record r { progress = begun }) refl refl refl follows p.hidden t gave s in
    let holds = stands_fed (record r { progress = begun }) (at_tick r begun) tick_word tick_line true unwhole unfinished refl refl refl (rw empty refl)
    (refl, (refl, (refl, (refl, tt)))) (rw empty (omega arith)) refl t gave begins in
    rw front_is (
      good_frame _ q (Some says.Tick) answers.Frame looks refl (fed t tick_line) gave holds,
      good_stop _ q (Some says.Tick) answers.Frame looks tt (fed t tick_line) gave holds,
    )
