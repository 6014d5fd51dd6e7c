-- The entries of the application monitors.
use Rattle.std.specs.Prelude.{ℕ, ◌+◌, Bool, false, not, ◌||◌, if◌then◌else◌, List, [], ◌∷◌, slice_index_or, Option, Some, None, is_some}
use Rattle.std.specs.List.{list_any}
use Rattle.packet_forms.specs.declared.name.Counter.{Counter}
use Rattle.hs_tables.specs.Apps.{blank_row, entry_of}
use Rattle.hs_tables.specs.declared.apps.AppRow.{AppRow}
use Rattle.hs_tables.specs.declared.apps.AppEntry.{AppEntry}
use Rattle.hs_actions.specs.Happenings.{Happening, attempt_by}
use Rattle.hs_actions.specs.Happenings.Happening.{Attempts}
use Rattle.hs_actions.specs.declared.action.Source.TheVariants.{AppMonitor}
use Rattle.hs_monitors.specs.Acting.{changes, acts_now, has_acted}

-- The row in a place of the table, from 0.
abbrev pub row_at : List AppRow → ℕ → AppRow
row_at rows place = slice_index_or rows place blank_row

-- Whether a row is a used entry.
abbrev pub is_entry : AppRow → Bool
is_entry row = is_some (entry_of row)

-- The name of the entry in a place, where it is used.
abbrev pub name_where : Option AppEntry → Option (List ℕ)
name_where None = None
name_where (Some e) = Some e.name

abbrev pub name_at : List AppRow → ℕ → Option (List ℕ)
name_at rows place = name_where (entry_of (row_at rows place))

-- How many places there are up to the last used entry.
unfoldable pub places_of : List AppRow → ℕ
places_of [] = 0
places_of (row ∷ rows) = if is_entry row || list_any is_entry rows then places_of rows + 1 else 0

-- The attempt of an entry in wakeup k, at the last check of a watch.
abbrev pub attempt_of : ℕ → List (List Counter) → AppEntry → List Happening
attempt_of k watch e = if acts_now e.cycles (changes e.name watch) then Attempts (attempt_by AppMonitor e.name e.action k) ∷ [] else []

abbrev pub attempt_where : ℕ → List (List Counter) → Option AppEntry → List Happening
attempt_where k watch None = []
attempt_where k watch (Some e) = attempt_of k watch e

unfoldable pub app_attempt : ℕ → List (List Counter) → AppRow → List Happening
app_attempt k watch row = attempt_where k watch (entry_of row)

-- Whether an entry is used and no check of a watch acted.
abbrev pub is_entry_watching : List (List Counter) → Option AppEntry → Bool
is_entry_watching watch None = false
is_entry_watching watch (Some e) = not (has_acted e.cycles (changes e.name watch))

unfoldable pub is_watching : List (List Counter) → AppRow → Bool
is_watching watch row = is_entry_watching watch (entry_of row)
