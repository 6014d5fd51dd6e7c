-- What is forgotten once a table became active, and what is kept.
use Rattle.std.proofs.Common.{◌≡◌, ◌≢◌, ℕ, ◌<◌, true, false, List, [], ◌∷◌, ◌++◌, map, None, sym, ap, ◌∙◌, eq-eqb, ne_eqb, append-nil, append_assoc}
use Rattle.std.specs.Prelude.{Some, ◌==◌}
use Rattle.std.specs.List.{list_any}
use Rattle.histories.specs.Entries.Entry.{Activated}
use Rattle.cs_slices.specs.declared.instructions.Instruction.{Instruction}
use Rattle.cs_slices.specs.Tables.{TablePair, entry_in}
use Rattle.cs_slices.specs.Happenings.{Slice, Happening, slices_among, since_slice, orders_since, slices_since}
use Rattle.cs_slices.specs.Happenings.Happening.{Ordered, Renewed}
use Rattle.cs_slices.specs.Orders.{table_of, is_entry_on}
use Rattle.cs_slices.specs.Slices.{offset_at}
use Rattle.cs_slices.specs.Passes.{baseline, baseline_at, miscompare_count, pass_count}
use Rattle.cs_slices.specs.Wakeups.{Input, ordered_at}
use Rattle.cs_slices.specs.Histories.{Activation, CsEntry, tables_after, happened_of, slice_at}
use Rattle.cs_slices.specs.Step.{cs_items}
use Rattle.cs_slices.specs.Telling.{tells_miscompare}
use Rattle.cs_slices.proofs.Happened.{slices_renewed, since_renewed, orders_since_renewed, slices_since_ordered}
use Rattle.cs_slices.proofs.Switching.{on_by_state, on_kept}
use Rattle.cs_slices.proofs.Passes.{all_turned, all_kept}
use Rattle.cs_slices.proofs.Tallying.{miscompares_renewed, baseline_renewed, baseline_kept}
use Rattle.cs_slices.proofs.Histories.{tables_activated, happened_more}
use Rattle.cs_slices.proofs.Telling.{told_first}

-- orders of a wakeup leave the slices
pub slices_since_orders : (n : ℕ) (happened : List Happening) (orders : List Instruction) → slices_since n (happened ++ map Ordered orders) ≡ slices_since n happened
slices_since_orders n happened [] = ap (slices_since n) (append-nil happened)
slices_since_orders n happened (order ∷ orders) =
    ap (slices_since n) (sym (append_assoc happened (Ordered order ∷ []) (map Ordered orders)))
    ∙ slices_since_orders n (happened ++ Ordered order ∷ []) orders ∙ slices_since_ordered n happened order

module _ (tables : TablePair) (history : List CsEntry) (a : Activation) where
  more : happened_of tables (history ++ Activated a ∷ []) ≡ happened_of tables history ++ Renewed a.number ∷ []
  more = happened_more tables history (Activated a)

  module _ (place : ℕ) (own : a.number ≡ table_of place) where
    same : (a.number == table_of place) ≡ true
    same = eq-eqb a.number (table_of place) own

    pub baseline_forgotten : baseline_at place (happened_of tables (history ++ Activated a ∷ [])) ≡ None
    baseline_forgotten = ap (baseline_at place) more ∙ baseline_renewed (happened_of tables history) a.number place same

    pub pass_forgotten : offset_at place (slices_among (happened_of tables (history ++ Activated a ∷ []))) (since_slice (happened_of tables (history ++ Activated a ∷ []))) ≡ 0
    pass_forgotten =
        rw (more, slices_renewed (happened_of tables history) a.number, since_renewed (happened_of tables history) a.number)
        (all_turned place (slices_among (happened_of tables history)) (since_slice (happened_of tables history)) (Renewed a.number) same).1

    pub on_by_file : is_entry_on (tables_after tables (history ++ Activated a ∷ [])) place (orders_since (table_of place) (happened_of tables (history ++ Activated a ∷ []))) ≡ ((entry_in (tables_after tables (history ++ Activated a ∷ [])) place).state == 1)
    on_by_file =
        ap (λ (h : List Happening). is_entry_on (tables_after tables (history ++ Activated a ∷ [])) place (orders_since (table_of place) h)) more
        ∙ ap (is_entry_on (tables_after tables (history ++ Activated a ∷ [])) place) (orders_since_renewed (table_of place) a.number (happened_of tables history) true same)
        ∙ on_by_state (tables_after tables (history ++ Activated a ∷ [])) place

  module _ (place : ℕ) (foreign : a.number ≢ table_of place) where
    other : (a.number == table_of place) ≡ false
    other = ne_eqb a.number (table_of place) foreign

    pub baseline_stays : baseline_at place (happened_of tables (history ++ Activated a ∷ [])) ≡ baseline_at place (happened_of tables history)
    baseline_stays = ap (baseline_at place) more ∙ baseline_kept (happened_of tables history) a.number place other

    pub pass_stays : offset_at place (slices_among (happened_of tables (history ++ Activated a ∷ []))) (since_slice (happened_of tables (history ++ Activated a ∷ []))) ≡ offset_at place (slices_among (happened_of tables history)) (since_slice (happened_of tables history))
    pass_stays =
        rw (more, slices_renewed (happened_of tables history) a.number, since_renewed (happened_of tables history) a.number)
        (all_kept place (slices_among (happened_of tables history)) (since_slice (happened_of tables history)) (Renewed a.number) other).1

    pub on_stays : place < 32
        → is_entry_on (tables_after tables (history ++ Activated a ∷ [])) place (orders_since (table_of place) (happened_of tables (history ++ Activated a ∷ []))) ≡ is_entry_on (tables_after tables history) place (orders_since (table_of place) (happened_of tables history))
    on_stays below =
        rw (more, tables_activated tables history a) (on_kept (tables_after tables history) (happened_of tables history) a.number a.table place below other)

  pub miscompares_stay : (table : ℕ) → miscompare_count table (happened_of tables (history ++ Activated a ∷ [])) ≡ miscompare_count table (happened_of tables history)
  miscompares_stay table = ap (miscompare_count table) more ∙ sym (miscompares_renewed (happened_of tables history) a.number table)

  pub passes_stay : pass_count (slices_among (happened_of tables (history ++ Activated a ∷ []))) ≡ pass_count (slices_among (happened_of tables history))
  passes_stay = ap (λ (h : List Happening). pass_count (slices_among h)) more ∙ ap pass_count (slices_renewed (happened_of tables history) a.number)

  -- the next wakeup tells no miscompare of the table
  pub untold : (input : Input) (s : Slice) → slice_at tables (history ++ Activated a ∷ []) input ≡ Some s → a.number ≡ table_of s.place → list_any tells_miscompare (cs_items tables (history ++ Activated a ∷ []) input) ≡ false
  untold input s is own =
      let behind = history ++ Activated a ∷ [] in
      told_first tables behind input s is
      (ap (baseline s.place) (slices_since_orders (table_of s.place) (happened_of tables behind) (ordered_at (tables_after tables behind) input)) ∙ baseline_forgotten s.place own)
