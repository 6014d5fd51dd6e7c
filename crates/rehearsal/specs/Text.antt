-- How far the reading of the scenario's file has come, and what the reader gave.
use Rattle.std.specs.Prelude.{◌≡◌, ℕ, ◌+◌, ◌*◌, ◌-◌, List, [], ◌∷◌, ◌++◌, length, slice_index, ◌≤◌, true, false, cond, Result, Ok, Err}
use Rattle.fsw_outside.specs.Files.{Content}
use Rattle.fsw_outside.specs.declared.traits.Failed.{Failed}
use Rattle.scenario.specs.declared.reader.Reader.{Reader}
use Rattle.scenario.specs.declared.item.Item.TheVariants as answers
use Rattle.scenario.specs.declared.reason.Reason.{Reason}
use Rattle.scenario.specs.Texts.{Text, Given, Bad, reading}
use Rattle.scenario.specs.Answers.{answer_at_end}
use Rattle.scenario.specs.Standing.{Stands, left, header_in, frame_in}
use Rattle.rehearsal.specs.Fed.{Fed}
use Rattle.rehearsal.specs.Files.{IsSameOpening}
use Rattle.rehearsal.specs.declared.text.Next.{Next}
use Rattle.rehearsal.specs.declared.text.Next.TheVariants as nexts

-- what a call for bytes leaves pending, where nothing was
abbrev pub Fills : Result (Unit {0}) Failed → Fed → Content → Content → Type 0
Fills (Ok done) fed old new = IsSameOpening old new × (old.rest ≡ fed.pending ++ new.rest) × (fed.pending ≡ [] → new.rest ≡ [])
Fills (Err e) fed old new = IsSameOpening old new × (new.rest ≡ old.rest)

-- From old on, these bytes were read, and the last of them are pending; all of the rest was, where the text is closed.
pub record IsRead (text : Text) (pending : List ℕ) (old new : Content) : Type 0 where
  pub same : IsSameOpening old new
  pub parts : old.rest ≡ (text.bytes ++ pending) ++ new.rest
  pub ended : text.closed ≡ true → new.rest ≡ []

-- Some of the pending bytes were fed, and the others are left: so the bytes that were read are the same.
pub record IsFedOn (text : Text) (pending : List ℕ) (now : Text) (left : List ℕ) : Type 0 where
  pub bytes : now.bytes ++ left ≡ text.bytes ++ pending
  pub closed : now.closed ≡ text.closed

-- the reader stands for the text that was fed and for the items that it gave, and the feed counts the bytes
pub record Holds (reader : Reader) (fed : Fed) (text : Text) (gave : List Given) : Type 0 where
  pub stands : Stands reader text gave
  pub closed : text.closed ≡ fed.ended
  pub nothing : fed.ended ≡ true → fed.pending ≡ []
  pub total : fed.total ≡ length text.bytes + length fed.pending
  pub few : length fed.pending ≤ 4096

-- the text ends where the line of its n-th item ends, counted from 0, or the bad line behind its items
abbrev pub StopsAt : Text → ℕ → Type 0
StopsAt text n = slice_index (reading text).stops n ≡ length text.bytes

-- what the reader gave next, after these items
abbrev pub Gives : Next → Reader → Fed → Text → List Given → Type 0
Gives nexts.Header reader fed text gave = Holds reader fed text (gave ++ header_in reader ∷ []) × StopsAt text (length gave)
Gives nexts.Frame reader fed text gave = Holds reader fed text (gave ++ frame_in reader ∷ []) × StopsAt text (length gave)
Gives nexts.End reader fed text gave = Holds reader fed text gave × (gave ≡ (reading text).items) × (answers.End ≡ answer_at_end (reading text).ending)
Gives (nexts.Bad line reason) reader fed text gave =
    Holds reader fed text gave × (gave ≡ (reading text).items) × (answers.Bad line reason ≡ answer_at_end (reading text).ending)
    × ((at : ℕ) (why : Reason) → (reading text).ending ≡ Bad at why → StopsAt text (length gave))
Gives nexts.Dry reader fed text gave = Holds reader fed text gave × (gave ≡ (reading text).items) × (answers.More ≡ answer_at_end (reading text).ending) × (text.closed ≡ false) × (fed.pending ≡ [])

-- how much is left to do until the text's end, at most
unfoldable pub work_left : Reader → Fed → ℕ
work_left reader fed = 3 * (16781953 - fed.total) + 2 * length fed.pending + left reader + cond fed.ended 0 1
