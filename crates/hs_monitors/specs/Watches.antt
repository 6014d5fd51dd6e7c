-- The watch of the application monitors. A check is the list of the frame's execution counters.
use Rattle.std.specs.Prelude.{Bool, true, false, if◌then◌else◌, List, [], ◌++◌, filter_map, Option, Some, None}
use Rattle.histories.specs.Words.{along, from_last}
use Rattle.histories.specs.Entries.Entry.{Woken, Activated}
use Rattle.packet_forms.specs.declared.name.Counter.{Counter}
use Rattle.hs_monitors.specs.Histories.{HsEntry}
use Rattle.hs_monitors.specs.Histories.Activation.{Apps, Events, Counts}
use Rattle.hs_monitors.specs.Orders.{ordered_at, orders_of, is_on, refreshed_by}
use Rattle.hs_monitors.specs.declared.instructions.Instruction.{Instruction}

-- What an entry of a history is to the watch: whether the watch begins anew with it, and its counters where it is a check.
pub record Mark : Type 0 where
  pub anew : Bool
  pub check : Option (List Counter)

-- A wakeup with an order that refreshes begins the watch anew, and one at whose last order application monitoring is on is a check. The
-- activation of an application monitor table begins it anew and is no check.
abbrev pub mark_of : List HsEntry → HsEntry → Mark
mark_of earlier (Woken input) = record { anew = refreshed_by (ordered_at input); check = if is_on (orders_of earlier ++ ordered_at input) then Some input.seen.counters else None }
mark_of earlier (Activated (Apps rows)) = record { anew = true; check = None }
mark_of earlier (Activated (Events rows)) = record { anew = false; check = None }
mark_of earlier (Activated (Counts rows)) = record { anew = false; check = None }

-- The watch behind these entries: the checks from the last entry on with which it begins anew, that one included, or all.
unfoldable pub watch_of : List HsEntry → List (List Counter)
watch_of entries = filter_map (λ m. m.check) (from_last (λ m. m.anew) (along mark_of entries))

-- The watch at a place in the next wakeup, behind what was ordered in it so far.
unfoldable pub watch_at : List HsEntry → List Instruction → List (List Counter)
watch_at entries orders = if refreshed_by orders then [] else watch_of entries
