-- What is kept of the application monitors while the countdowns of those are begun anew whose counters changed.
use Rattle.std.specs.Prelude.{◌≡◌, ◌+◌, ◌<◌, ◌≤◌, ◌⊎◌, ℕ, List, [], ◌∷◌, ◌++◌, length, drop, get_or, Some}
use Rattle.packet_forms.specs.declared.name.Counter.{Counter}
use Rattle.hs_tables.specs.Apps.{entry_of}
use Rattle.hs_tables.specs.declared.apps.AppRow.{AppRow}
use Rattle.hs_tables.specs.declared.apps.AppEntry.{AppEntry}
use Rattle.hs_monitors.specs.Acting.{counter_in}
use Rattle.hs_monitors.specs.Monitors.{row_at}
use Rattle.hs_monitors.specs.Entries.{EntryStands, watched_at, later}
use Rattle.hs_monitors.specs.declared.watches.Watched.{Watched}

-- A counter stands in a place among these, from 0.
pub record IsNth (counters : List Counter) (n : ℕ) (counter : Counter) : Type 0 where
  pub within : n < length counters
  pub here : counter ≡ get_or counters n counter

-- What is kept of an entry is one check further, or it is as it was and none of the first counters has the name of the entry.
abbrev pub Turned : List (List Counter) → List Counter → ℕ → ℕ → AppEntry → Watched → Watched → Type 0
Turned checks counters n passed e old new =
    EntryStands e (checks ++ counters ∷ []) (later (passed + 1) new) ⊎ ((new ≡ old) × (counter_in counters e.name ≡ counter_in (drop n counters) e.name))

-- What is kept of all entries, once the first counters were looked at, in a check behind those that passed; no countdown is below the fewest.
pub record Renewing (rows : List AppRow) (checks : List (List Counter)) (counters : List Counter) (n passed : ℕ) (old new : List Watched) (fewest : ℕ) : Type 0 where
  pub each : (k : ℕ) (e : AppEntry) → k < 32 → entry_of (row_at rows k) ≡ Some e → Turned checks counters n passed e (watched_at old k) (watched_at new k)
  pub low : (k : ℕ) → k < 32 → 0 < (watched_at new k).countdown → fewest ≤ (watched_at new k).countdown
  pub above : passed + 1 < fewest
