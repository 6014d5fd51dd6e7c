use Rattle.std.proofs.Common.{◌≡◌, ◌<◌, ◌≤◌, ◌+◌, ℕ, List, [], ◌∷◌, ◌++◌, length, Some}
use Rattle.packet_forms.specs.declared.name.Counter.{Counter}
use Rattle.hs_tables.specs.Apps.{entry_of}
use Rattle.hs_tables.specs.declared.apps.AppEntry.{AppEntry}
use Rattle.hs_monitors.specs.Monitors.{row_at}
use Rattle.hs_monitors.specs.Heads.{head_of, slot_stretch}
use Rattle.hs_monitors.specs.Entries.{EntryStands, KeptStands, watched_at, later, kept_with}
use Rattle.hs_monitors.specs.Renewing.{IsNth, Renewing}
use Rattle.hs_monitors.specs.declared.watches.Watched.{Watched}
use Rattle.hs_monitors.proofs.kept.renew_named.Given as goal

-- the entries so far that have the counter's name are one check further
abbrev pub invariant-loop-place : goal.invariant-loop-place
invariant-loop-place l = record {
  long : length l.watched ≡ 32;
  some : 0 < l.fewest;
  renewing : (checks : List (List Counter)) (n most : ℕ) (from : List Watched) → KeptStands l.apps checks (kept_with l.heads from l.passed most) → l.passed + 1 < most → IsNth l.counters n l.counter
      → Renewing l.apps checks l.counters n l.passed from l.fn.watched l.least
      → Renewing l.apps checks l.counters n l.passed from l.watched l.fewest
      × ((k : ℕ) (e : AppEntry) → (slot_stretch l.heads l.head).from ≤ k → k < l.place → head_of e.name ≡ l.head → entry_of (row_at l.apps k) ≡ Some e → EntryStands e (checks ++ l.counters ∷ []) (later (l.passed + 1) (watched_at l.watched k)));
}
