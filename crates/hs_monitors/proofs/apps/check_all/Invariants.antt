use Rattle.std.proofs.Common.{◌≡◌, ◌≤◌, ◌+◌, ◌*◌, ℕ, List, [], ◌∷◌, ◌++◌, length, take}
use Rattle.std.specs.List.{flat_map, AllPass}
use Rattle.packet_forms.specs.declared.name.Counter.{Counter}
use Rattle.bus_pipes.specs.Counted.{is_item_counted}
use Rattle.hs_actions.specs.Performs.{Performs}
use Rattle.hs_monitors.specs.Monitors.{app_attempt}
use Rattle.hs_monitors.specs.Entries.{EntriesStand}
use Rattle.hs_monitors.proofs.Rests.{half_way}
use Rattle.hs_monitors.proofs.apps.check_all.Given as goal

-- the entries so far are one check further, and what they attempted was performed
abbrev pub invariant-loop-place : goal.invariant-loop-place
invariant-loop-place l = record {
  long : length l.kept ≡ 32;
  few : length l.out.items ≤ length l.fn.out.items + 2 * l.place;
  room : l.out.room ≡ l.fn.out.room;
  counted : AllPass is_item_counted l.fn.out.items → AllPass is_item_counted l.out.items;
  stand : (checks : List (List Counter)) → EntriesStand l.tables.apps (λ (k : ℕ). checks) l.fn.kept → EntriesStand l.tables.apps (half_way checks l.counters l.place) l.kept;
  performs : (checks : List (List Counter)) → EntriesStand l.tables.apps (λ (k : ℕ). checks) l.fn.kept
      → Performs l.tables.acts l.now (λ (k : ℕ). flat_map (app_attempt k (checks ++ l.counters ∷ [])) (take l.place l.tables.apps)) l.fn.actions l.actions l.fn.out l.out;
}
