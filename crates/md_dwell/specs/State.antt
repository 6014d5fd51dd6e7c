-- When a state of MD stands for the tables with which its history began and for its entries, and when it has nothing to do.
use Rattle.std.specs.Prelude.{◌≡◌, ℕ, ◌==◌, Bool, true, not, ◌&&◌, List, [], length}
use Rattle.std.specs.List.{AllPass, list_any, range_with_len}
use Rattle.histories.specs.Entries.{wakeups}
use Rattle.commands.specs.Counting.{counts_of}
use Rattle.memory_window.specs.declared.regions.Region.{Region}
use Rattle.md_dwell.specs.Tables.{DwellTable}
use Rattle.md_dwell.specs.Given.{is_given}
use Rattle.md_dwell.specs.Histories.{MdEntry, started_at, started_by, images_of}
use Rattle.md_dwell.specs.Housekeeping.{entries_now, is_on, dwells}
use Rattle.md_dwell.specs.Step.{md_heard}
use Rattle.md_dwell.specs.Streams.{StreamStands, IsAtBeginning}
use Rattle.md_dwell.specs.declared.instructions.Instruction.{Instruction}
use Rattle.md_dwell.specs.declared.streams.Stream.{Stream}
use Rattle.md_dwell.specs.declared.duty.Duty.{Duty}
use Rattle.md_dwell.specs.declared.state.Md.{Md}

-- The stream of table n stands for the tables, a history and what was ordered in the next wakeup so far.
abbrev pub TableStands : List DwellTable → List MdEntry → List Instruction → ℕ → Stream → Type 0
TableStands tables history orders n stream = StreamStands (entries_now tables history orders n) (is_on tables history orders n) (started_by n history orders) (images_of history) stream

-- The streams of the four tables stand for them.
pub record DutyStands (tables : List DwellTable) (history : List MdEntry) (orders : List Instruction) (duty : Duty) : Type 0 where
  pub first : TableStands tables history orders 1 duty.first
  pub second : TableStands tables history orders 2 duty.second
  pub third : TableStands tables history orders 3 duty.third
  pub fourth : TableStands tables history orders 4 duty.fourth

-- The state stands for the tables with which a history began, and for the history.
pub record StandsFor (tables : List DwellTable) (history : List MdEntry) (md : Md) : Type 0 where
  pub counts : md.counts ≡ counts_of (md_heard history)
  pub duty : DutyStands tables history [] md.duty

unfoldable pub Stands : List DwellTable → List MdEntry → Md → Type 0
Stands tables history md = StandsFor tables history md

-- Where the stream of table n starts in the next wakeup, and the table dwells, it is at its beginning.
abbrev pub Begins : List DwellTable → List MdEntry → ℕ → Stream → Type 0
Begins tables history n stream = started_at n history ≡ length (wakeups history) → dwells tables history n ≡ true → IsAtBeginning stream

-- The streams of all four tables are at their beginnings in this way.
pub record AllBegin (tables : List DwellTable) (history : List MdEntry) (md : Md) : Type 0 where
  pub first : Begins tables history 1 md.duty.first
  pub second : Begins tables history 2 md.duty.second
  pub third : Begins tables history 3 md.duty.third
  pub fourth : Begins tables history 4 md.duty.fourth

-- All entries of the streams are given.
pub record StreamsGiven (regions : List Region) (duty : Duty) : Type 0 where
  pub first : AllPass (is_given regions) duty.first.plan
  pub second : AllPass (is_given regions) duty.second.plan
  pub third : AllPass (is_given regions) duty.third.plan
  pub fourth : AllPass (is_given regions) duty.fourth.plan

-- All entries of the state are given.
abbrev pub AllGiven : List Region → Md → Type 0
AllGiven regions md = StreamsGiven regions md.duty

-- Without packets MD has nothing to do where no table dwells.
unfoldable pub is_idle_on : List DwellTable → List MdEntry → List (List ℕ) → Bool
is_idle_on tables history commands = (length commands == 0) && not (list_any (dwells tables history) (range_with_len 1 4))
