-- The list of a dwell table, and its delays.
use Rattle.std.specs.Prelude.{ℕ, ◌-◌, ◌==◌, List, length, take, sum_by}
use Rattle.std.specs.List.{before_first}
use Rattle.md_dwell.specs.declared.tables.DwellEntry.{DwellEntry}

-- The list of these entries: it ends before the first entry of length 0.
unfoldable pub list_of : List DwellEntry → List DwellEntry
list_of entries = before_first (λ e. e.len == 0) entries

-- The delays of these entries together.
unfoldable pub delays : List DwellEntry → ℕ
delays entries = sum_by (λ e. e.delay) entries

-- The delays of the entries before the last.
abbrev pub delays_to_last : List DwellEntry → ℕ
delays_to_last list = delays (take (length list - 1) list)
