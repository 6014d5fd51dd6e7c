-- The tables of HS that are active, behind a wakeup more.
use Rattle.std.proofs.Common.{◌≡◌, List, [], ◌∷◌, ◌++◌, refl}
use Rattle.histories.specs.Entries.Entry.{Woken}
use Rattle.histories.proofs.Entries.{in_force_none, in_force_woken}
use Rattle.hs_monitors.specs.Histories.{Input, HsEntry, Setup, apps_in, events_in, counts_in, tables_after}

-- none came yet
pub tables_begun : (setup : Setup) → tables_after setup [] ≡ setup.tables
tables_begun setup = rw (in_force_none Input apps_in setup.tables.apps, in_force_none Input events_in setup.tables.events, in_force_none Input counts_in setup.tables.counts) refl

-- a wakeup changes none
pub tables_woken : (setup : Setup) (history : List HsEntry) (input : Input) → tables_after setup (history ++ Woken input ∷ []) ≡ tables_after setup history
tables_woken setup history input =
    rw (in_force_woken apps_in setup.tables.apps history input, in_force_woken events_in setup.tables.events history input, in_force_woken counts_in setup.tables.counts history input) refl
