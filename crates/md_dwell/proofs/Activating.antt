-- The streams once a table became active.
use Rattle.std.proofs.Common.{◌≡◌, ℕ, true, false, eqb, List, [], ◌∷◌, ◌++◌, length, subst}
use Rattle.histories.specs.Entries.{wakeups}
use Rattle.histories.specs.Entries.Entry.{Activated}
use Rattle.memory_window.specs.Memory.{Memory}
use Rattle.md_dwell.specs.Tables.{DwellTable}
use Rattle.md_dwell.specs.Histories.{MdEntry, activation_of, images_of}
use Rattle.md_dwell.specs.Streams.{StreamStands}
use Rattle.md_dwell.specs.State.{TableStands}
use Rattle.md_dwell.specs.declared.streams.Stream.{Stream}
use Rattle.md_dwell.proofs.Following.{table_activated, orders_activated, started_activated, started_unordered, images_activated}
use Rattle.md_dwell.proofs.Turns.{unordered, images_count}

-- the table itself: its stream starts in the next wakeup
pub taken : (tables : List DwellTable) (history : List MdEntry) (m n : ℕ) (table : DwellTable) (s : Stream) → eqb m n ≡ true
    → ((images : List Memory) → StreamStands table.entries table.enabled (length images) images s) → TableStands tables (history ++ Activated (activation_of m table) ∷ []) [] n s
taken tables history m n table s same begins =
    let a = activation_of m table in
    rw (table_activated tables history a n true same, orders_activated n history a true same, started_unordered n (history ++ Activated a ∷ []), started_activated n history a true same, images_activated history a)
    (unordered n table (length (wakeups history)) (images_of history) s
    (subst (λ (k : ℕ). StreamStands table.entries table.enabled k (images_of history) s) (images_count history) (begins (images_of history))))

-- another one
pub kept_apart : (tables : List DwellTable) (history : List MdEntry) (m n : ℕ) (table : DwellTable) (s : Stream) → eqb m n ≡ false → TableStands tables history [] n s
    → TableStands tables (history ++ Activated (activation_of m table) ∷ []) [] n s
kept_apart tables history m n table s other stood =
    let a = activation_of m table in
    rw (table_activated tables history a n false other, orders_activated n history a false other, started_unordered n (history ++ Activated a ∷ []), started_activated n history a false other, images_activated history a, ← started_unordered n history)
    stood
