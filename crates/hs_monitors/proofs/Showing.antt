-- What housekeeping shows.
use Rattle.std.proofs.Common.{◌≡◌, ◌≢◌, ℕ, ◌+◌, ◌<◌, Bool, true, false, not, List, ◌++◌, length, take, get_or, set, inl, inr, Option, Some, None, refl, sym, ap, ◌∙◌, arith, append-nil, append_assoc, eq-eqb, ne_eqb}
use Rattle.std.specs.Prelude.{◌==◌}
use Rattle.std.specs.List.{flat_map}
use Rattle.std.proofs.lemmas.Bool.{cases_eq}
use Rattle.std.proofs.lemmas.List.{get_or-set_same, get_or-set_other}
use Rattle.histories.specs.Masks.{bits_of}
use Rattle.histories.proofs.Fronts.{flat_map_front}
use Rattle.packet_forms.specs.declared.name.Counter.{Counter}
use Rattle.bus_pipes.specs.declared.names.Counts.{Counts}
use Rattle.hs_tables.specs.Apps.{blank_row, entry_of}
use Rattle.hs_tables.specs.declared.apps.AppRow.{AppRow}
use Rattle.hs_tables.specs.declared.apps.AppEntry.{AppEntry}
use Rattle.hs_tables.specs.declared.counters.CountRow.{CountRow}
use Rattle.hs_actions.specs.State.{ActionsStand}
use Rattle.hs_monitors.specs.Histories.{Input, HsEntry, Setup, apps_after, tables_after}
use Rattle.hs_monitors.specs.Watches.{watch_at}
use Rattle.hs_monitors.specs.Acting.{changes, has_acted}
use Rattle.hs_monitors.specs.Monitors.{row_at, is_entry_watching, is_watching}
use Rattle.hs_monitors.specs.Attempts.{past_in}
use Rattle.hs_monitors.specs.Housekeeping.{watching_bits, shown_bytes, housekeeping_of, housekeeping_at}
use Rattle.hs_monitors.specs.Entries.{EntryStands}
use Rattle.hs_monitors.specs.State.{DutyStands}
use Rattle.hs_monitors.specs.declared.instructions.Instruction.{Instruction}
use Rattle.hs_monitors.specs.declared.watches.Watched.{Watched}
use Rattle.hs_monitors.specs.declared.duty.Duty.{Duty}
use Rattle.hs_monitors.proofs.Lists.{map_by_all}
use Rattle.hs_monitors.proofs.Acting.{running, acted_over}

-- an entry watches while its countdown isn't 0
watches_is : (e : AppEntry) (checks : List (List Counter)) (w : Watched) → 0 < e.cycles → EntryStands e checks w → not (w.countdown == 0) ≡ not (has_acted e.cycles (changes e.name checks))
watches_is e checks w some stood = by_case (has_acted e.cycles (changes e.name checks)) refl
  where
    by_case : (b : Bool) → has_acted e.cycles (changes e.name checks) ≡ b → not (w.countdown == 0) ≡ not b
    by_case true acted = let over : w.countdown ≡ 0 = stood.countdown ∙ acted_over e.cycles (changes e.name checks) acted in rw (eq-eqb w.countdown 0 over) refl
    by_case false not_yet = let runs = running e.cycles (changes e.name checks) some not_yet in let is = stood.countdown in let apart : w.countdown ≢ 0 = omega (arith, runs, is) in rw (ne_eqb w.countdown 0 apart) refl

pub shown_used : (row : AppRow) (found : Option AppEntry) (e : AppEntry) (checks : List (List Counter)) (w : Watched) → found ≡ entry_of row → found ≡ Some e → 0 < e.cycles → EntryStands e checks w
    → not (w.countdown == 0) ≡ is_watching checks row
unfolding is_watching
shown_used row found e checks w found_is some used stood = watches_is e checks w used stood ∙ ap (is_entry_watching checks) (sym (sym found_is ∙ some))

pub shown_unused : (row : AppRow) (found : Option AppEntry) (checks : List (List Counter)) → found ≡ entry_of row → found ≡ None → false ≡ is_watching checks row
unfolding is_watching
shown_unused row found checks found_is none = ap (is_entry_watching checks) (sym (sym found_is ∙ none))

-- the bytes of the counters, at one more
pub counters_none : (counters : List Counter) (rows : List CountRow) (before : List ℕ) → before ≡ before ++ flat_map (shown_bytes counters) (take 0 rows)
counters_none counters rows before = sym (append-nil before)

pub counters_more : (counters : List Counter) (rows : List CountRow) (i : ℕ) (row : CountRow) (start before after : List ℕ) → i < length rows → row ≡ get_or rows i row
    → before ≡ start ++ flat_map (shown_bytes counters) (take i rows) → after ≡ before ++ shown_bytes counters row → after ≡ start ++ flat_map (shown_bytes counters) (take (i + 1) rows)
counters_more counters rows i row start before after within is so_far here =
    here ∙ ap (λ (bytes : List ℕ). bytes ++ shown_bytes counters row) so_far ∙ append_assoc start (flat_map (shown_bytes counters) (take i rows)) (shown_bytes counters row)
    ∙ ap (λ (bytes : List ℕ). start ++ bytes) (sym (flat_map_front (shown_bytes counters) rows i row within is))

-- the packet at a place
pub housekeeping_shown : (setup : Setup) (history : List HsEntry) (input : Input) (orders : List Instruction) (counts : Counts) (m : Duty) (now watching : ℕ) (p : List ℕ)
    → DutyStands setup history orders (past_in setup history orders) m → input.time ≡ now
    → watching ≡ watching_bits (apps_after setup history) (watch_at history orders)
    → p ≡ housekeeping_of now counts m.monitoring m.listening m.actions.made m.actions.max m.actions.sent watching (tables_after setup history).counts input.seen.counters
    → p ≡ housekeeping_at setup history input counts orders
unfolding housekeeping_at ActionsStand
housekeeping_shown setup history input orders counts m now watching p stood timed watching_is is =
    is ∙ rw (← timed, stood.monitoring, stood.listening, stood.actions.made, stood.actions.max, stood.actions.sent, watching_is) refl

-- the bits of the mask, one more, and all of them
pub bits_more : (rows : List AppRow) (checks : List (List Counter)) (bits : List Bool) (i : ℕ) (b : Bool) → i < length bits → ((k : ℕ) → k < i → get_or bits k false ≡ is_watching checks (row_at rows k)) → b ≡ is_watching checks (row_at rows i)
    → (k : ℕ) → k < i + 1 → get_or (set bits i b) k false ≡ is_watching checks (row_at rows k)
bits_more rows checks bits i b inside before here k below = elim (cases_eq i k) [
  | inl same ↦ ap (λ (j : ℕ). get_or (set bits i b) j false) (sym same) ∙ get_or-set_same bits i b false inside ∙ here ∙ ap (λ (j : ℕ). is_watching checks (row_at rows j)) same
  | inr other ↦ let apart : i ≢ k = other in get_or-set_other bits i k b false (λ back. other (sym back)) ∙ before k (omega arith)
]

pub bits_all : (rows : List AppRow) (checks : List (List Counter)) (bits : List Bool) (mask : ℕ) → length bits ≡ length rows → ((k : ℕ) → k < length rows → get_or bits k false ≡ is_watching checks (row_at rows k)) → mask ≡ bits_of bits
    → mask ≡ watching_bits rows checks
unfolding watching_bits
bits_all rows checks bits mask long each is = is ∙ ap bits_of (map_by_all (is_watching checks) rows bits blank_row false long each)
