use Rattle.std.proofs.Common.{◌≡◌, ◌<◌, ℕ, [], length, Some}
use Rattle.hs_tables.specs.Apps.{entry_of}
use Rattle.hs_tables.specs.declared.apps.AppEntry.{AppEntry}
use Rattle.hs_monitors.specs.Monitors.{row_at, name_at}
use Rattle.hs_monitors.specs.Heads.{AreHeaded}
use Rattle.hs_monitors.specs.Entries.{EntryStands, watched_at}
use Rattle.hs_monitors.proofs.apps.begin_all.Given as goal

-- what is kept so far stands for no check, and the names so far are noted
abbrev pub invariant-loop-place : goal.invariant-loop-place
invariant-loop-place l = record {
  long : length l.kept ≡ 32;
  each : (k : ℕ) (e : AppEntry) → k < l.place → entry_of (row_at l.apps k) ≡ Some e → EntryStands e [] (watched_at l.kept k);
  heads : AreHeaded (name_at l.apps) l.place l.heads;
}
