-- When what is kept of the application monitors stands for the checks of their watch.
use Rattle.std.specs.Prelude.{◌≡◌, ◌<◌, ◌≤◌, ◌-◌, ℕ, false, List, length, slice_index_or, Some}
use Rattle.packet_forms.specs.declared.name.Counter.{Counter}
use Rattle.hs_tables.specs.Apps.{entry_of}
use Rattle.hs_tables.specs.declared.apps.AppRow.{AppRow}
use Rattle.hs_tables.specs.declared.apps.AppEntry.{AppEntry}
use Rattle.hs_monitors.specs.Acting.{last_counter, changes, has_acted, countdown_of}
use Rattle.hs_monitors.specs.Monitors.{row_at, name_at}
use Rattle.hs_monitors.specs.Heads.{AreHeaded}
use Rattle.hs_monitors.specs.declared.watches.Watched.{Watched}
use Rattle.hs_monitors.specs.declared.heads.Heads.{Heads}
use Rattle.hs_monitors.specs.declared.kept.Kept.{Kept}

-- What is kept of an entry stands for some checks. Where it acted nothing is said of the last counter.
pub record EntryStands (e : AppEntry) (checks : List (List Counter)) (w : Watched) : Type 0 where
  pub countdown : w.countdown ≡ countdown_of e.cycles (changes e.name checks)
  pub last : has_acted e.cycles (changes e.name checks) ≡ false → w.last ≡ last_counter e.name checks

-- What is kept in a place.
abbrev pub watched_at : List Watched → ℕ → Watched
watched_at kept place = slice_index_or kept place (record { last = 0; countdown = 0 })

-- What is kept of each used entry stands for the checks that are given by its place.
pub record EntriesStand (rows : List AppRow) (checks : ℕ → List (List Counter)) (kept : List Watched) : Type 0 where
  pub each : (k : ℕ) (e : AppEntry) → k < 32 → entry_of (row_at rows k) ≡ Some e → EntryStands e (checks k) (watched_at kept k)

-- What is kept of an entry once so many checks are taken off its countdown.
abbrev pub later : ℕ → Watched → Watched
later passed w = record { last = w.last; countdown = w.countdown - passed }

-- What is kept of all entries, by its parts.
abbrev pub kept_with : Heads → List Watched → ℕ → ℕ → Kept
kept_with heads watched passed least = record { heads = heads; watched = watched; passed = passed; least = least }

-- The names of all used entries are noted.
abbrev pub HeadsStand : List AppRow → Heads → Type 0
HeadsStand rows heads = AreHeaded (name_at rows) 32 heads

-- What is kept of all entries stands for some checks: their names are noted, what is kept of each does once the passed checks are taken off, and no countdown that
-- isn't over is less than the least, which is more than the passed checks.
pub record KeptStands (rows : List AppRow) (checks : List (List Counter)) (kept : Kept) : Type 0 where
  pub whole : length rows ≡ 32
  pub heads : HeadsStand rows kept.heads
  pub each : (k : ℕ) (e : AppEntry) → k < 32 → entry_of (row_at rows k) ≡ Some e → EntryStands e checks (later kept.passed (watched_at kept.watched k))
  pub least : (k : ℕ) → k < 32 → 0 < (watched_at kept.watched k).countdown → kept.least ≤ (watched_at kept.watched k).countdown
  pub within : kept.passed < kept.least
