-- What is on at one more happening.
use Rattle.std.proofs.Common.{◌≡◌, ◌≢◌, ℕ, ◌<◌, Bool, true, false, cond, ◌&&◌, List, [], ◌∷◌, ◌++◌, length, get_or, set, refl, sym, ap, ◌∙◌, append-nil, get_or-set_other, get_or-set_same}
use Rattle.std.specs.Prelude.{Option, Some, None, filter_map, ◌==◌}
use Rattle.std.specs.List.{cons_option}
use Rattle.std.proofs.lemmas.Bool.{eqb-true, eqb-false}
use Rattle.std.proofs.lemmas.List.Elements.{filter_map-append}
use Rattle.histories.specs.Words.{last_or}
use Rattle.histories.proofs.Lasts.{last_or_more}
use Rattle.cs_slices.specs.declared.instructions.Instruction.{Instruction}
use Rattle.cs_slices.specs.Tables.{TablePair, pair_of, with_table, entry_in}
use Rattle.cs_slices.specs.Happenings.{Slice, Happening, orders_among, orders_since}
use Rattle.cs_slices.specs.Happenings.Happening.{Ordered, Read, Renewed}
use Rattle.cs_slices.specs.Orders.{cs_switch, table_switch, entry_switch, is_cs_on, is_table_on, is_entry_on, table_of, takes_part}
use Rattle.cs_slices.specs.State.{SwitchesStand}
use Rattle.cs_slices.specs.declared.segments.Segment.{Segment}
use Rattle.cs_slices.specs.declared.switches.Switches.{Switches}
use Rattle.cs_slices.proofs.Happened.{orders_none, orders_since_none, orders_ordered, orders_read, orders_renewed, orders_since_ordered, orders_since_read, orders_since_renewed}
use Rattle.cs_slices.proofs.Places.{entry_renewed, entry_kept}

-- what is on after an order that switches it or doesn't
abbrev pub switched : Option Bool → Bool → Bool
switched None on = on
switched (Some to) on = to

-- the last switching at one more packet
last_switch : (f : Instruction → Option Bool) (d : Bool) (orders : List Instruction) (h : Instruction) → last_or d (filter_map f (orders ++ h ∷ [])) ≡ switched (f h) (last_or d (filter_map f orders))
last_switch f d orders h = ap (last_or d) (filter_map-append f orders (h ∷ [])) ∙ by_option (f h)
  where
    by_option : (o : Option Bool) → last_or d (filter_map f orders ++ cons_option o []) ≡ switched o (last_or d (filter_map f orders))
    by_option None = ap (last_or d) (append-nil (filter_map f orders))
    by_option (Some to) = last_or_more d (filter_map f orders) to

-- one switch of many, after one of them was set
pub set_switch : (xs : List Bool) (i k : ℕ) (on : Bool) → i < length xs → get_or (set xs i on) k false ≡ switched (cond (i == k) (Some on) None) (get_or xs k false)
set_switch xs i k on within = by_case (i == k) refl
  where
    by_case : (b : Bool) → (i == k) ≡ b → get_or (set xs i on) k false ≡ switched (cond b (Some on) None) (get_or xs k false)
    by_case true same = let e : i ≡ k = eqb-true i k same in ap (λ (j : ℕ). get_or (set xs i on) j false) (sym e) ∙ get_or-set_same xs i on false within
    by_case false other = let e : i ≢ k = eqb-false i k other in get_or-set_other xs i k on false (λ back. e (sym back))

-- all switches after an order
pub switches_after : (tables : TablePair) (happened : List Happening) (h : Instruction) (s t : Switches) → SwitchesStand tables happened s
    → t.cs ≡ switched (cs_switch h) s.cs → t.eeprom ≡ switched (table_switch 1 h) s.eeprom → t.memory ≡ switched (table_switch 2 h) s.memory
    → length t.entries ≡ length s.entries → ((k : ℕ) → k < 32 → get_or t.entries k false ≡ switched (entry_switch k h) (get_or s.entries k false))
    → SwitchesStand tables (happened ++ Ordered h ∷ []) t
unfolding is_cs_on is_table_on is_entry_on
switches_after tables happened h s t stood cs eeprom memory long each = record {
  whole = long ∙ stood.whole;
  cs = cs ∙ ap (switched (cs_switch h)) stood.cs ∙ sym (ap is_cs_on (orders_ordered happened h) ∙ last_switch (cs_switch) true (orders_among happened) h);
  eeprom = eeprom ∙ ap (switched (table_switch 1 h)) stood.eeprom ∙ sym (ap (is_table_on 1) (orders_ordered happened h) ∙ last_switch (table_switch 1) true (orders_among happened) h);
  memory = memory ∙ ap (switched (table_switch 2 h)) stood.memory ∙ sym (ap (is_table_on 2) (orders_ordered happened h) ∙ last_switch (table_switch 2) true (orders_among happened) h);
  each = λ k below.
      each k below ∙ ap (switched (entry_switch k h)) (stood.each k below)
      ∙ sym (ap (is_entry_on tables k) (orders_since_ordered (table_of k) happened h) ∙ last_switch (entry_switch k) ((entry_in tables k).state == 1) (orders_since (table_of k) happened) h);
}

-- and after a slice
pub switches_read : (tables : TablePair) (happened : List Happening) (slice : Slice) (s : Switches) → SwitchesStand tables happened s → SwitchesStand tables (happened ++ Read slice ∷ []) s
switches_read tables happened slice s stood = record {
  whole = stood.whole;
  cs = stood.cs ∙ ap is_cs_on (sym (orders_read happened slice));
  eeprom = stood.eeprom ∙ ap (is_table_on 1) (sym (orders_read happened slice));
  memory = stood.memory ∙ ap (is_table_on 2) (sym (orders_read happened slice));
  each = λ k below. stood.each k below ∙ ap (is_entry_on tables k) (sym (orders_since_read (table_of k) happened slice));
}

-- an entry by its state in the table
pub on_by_state : (tables : TablePair) (k : ℕ) → is_entry_on tables k [] ≡ ((entry_in tables k).state == 1)
unfolding is_entry_on last_or
on_by_state tables k = refl

-- the entries as they are once a table became active
module _ (tables : TablePair) (happened : List Happening) (n : ℕ) (rows : List Segment) (k : ℕ) (below : k < 32) where
  pub on_renewed : (n == table_of k) ≡ true → is_entry_on (with_table n rows tables) k (orders_since (table_of k) (happened ++ Renewed n ∷ [])) ≡ ((entry_in (pair_of rows rows) k).state == 1)
  on_renewed same =
      ap (is_entry_on (with_table n rows tables) k) (orders_since_renewed (table_of k) n happened true same)
      ∙ on_by_state (with_table n rows tables) k ∙ ap (λ (e : Segment). e.state == 1) (entry_renewed n k rows tables below same)

  pub on_kept : (n == table_of k) ≡ false → is_entry_on (with_table n rows tables) k (orders_since (table_of k) (happened ++ Renewed n ∷ [])) ≡ is_entry_on tables k (orders_since (table_of k) happened)
  unfolding is_entry_on
  on_kept other =
      ap (is_entry_on (with_table n rows tables) k) (orders_since_renewed (table_of k) n happened false other)
      ∙ ap (λ (e : Segment). last_or (e.state == 1) (filter_map (entry_switch k) (orders_since (table_of k) happened))) (entry_kept n k rows tables below other)

pub switches_renewed : (tables : TablePair) (happened : List Happening) (n : ℕ) (rows : List Segment) (s t : Switches) → SwitchesStand tables happened s → t.cs ≡ s.cs → t.eeprom ≡ s.eeprom → t.memory ≡ s.memory → length t.entries ≡ 32
    → ((k : ℕ) → k < 32 → get_or t.entries k false ≡ cond (n == table_of k) ((entry_in (pair_of rows rows) k).state == 1) (get_or s.entries k false))
    → SwitchesStand (with_table n rows tables) (happened ++ Renewed n ∷ []) t
switches_renewed tables happened n rows s t stood cs eeprom memory whole each = record {
  whole = whole;
  cs = cs ∙ stood.cs ∙ ap is_cs_on (sym (orders_renewed happened n));
  eeprom = eeprom ∙ stood.eeprom ∙ ap (is_table_on 1) (sym (orders_renewed happened n));
  memory = memory ∙ stood.memory ∙ ap (is_table_on 2) (sym (orders_renewed happened n));
  each = λ k below. each k below ∙ by_case k below (n == table_of k) refl;
}
  where
    by_case : (k : ℕ) → k < 32 → (b : Bool) → (n == table_of k) ≡ b
        → cond b ((entry_in (pair_of rows rows) k).state == 1) (get_or s.entries k false) ≡ is_entry_on (with_table n rows tables) k (orders_since (table_of k) (happened ++ Renewed n ∷ []))
    by_case k below true same = sym (on_renewed tables happened n rows k below same)
    by_case k below false other = stood.each k below ∙ sym (on_kept tables happened n rows k below other)

cs_begun : is_cs_on [] ≡ true
unfolding is_cs_on last_or
cs_begun = refl

table_begun : (n : ℕ) → is_table_on n [] ≡ true
unfolding is_table_on last_or
table_begun n = refl

-- at the start
pub switches_start : (tables : TablePair) (s : Switches) → s.cs ≡ true → s.eeprom ≡ true → s.memory ≡ true → length s.entries ≡ 32 → ((k : ℕ) → k < 32 → get_or s.entries k false ≡ (entry_in tables k).state == 1) → SwitchesStand tables [] s
switches_start tables s cs eeprom memory whole each = record {
  cs = cs ∙ sym (ap is_cs_on orders_none ∙ cs_begun);
  eeprom = eeprom ∙ sym (ap (is_table_on 1) orders_none ∙ table_begun 1);
  memory = memory ∙ sym (ap (is_table_on 2) orders_none ∙ table_begun 2);
  whole = whole;
  each = λ k below. each k below ∙ sym (ap (is_entry_on tables k) (orders_since_none (table_of k)) ∙ on_by_state tables k);
}

-- a place takes part where all three are on
module _ (tables : TablePair) (happened : List Happening) (place : ℕ) where
  pub part_of_on : (s : Switches) → SwitchesStand tables happened s → place < 32 → s.cs ≡ true → is_table_on (table_of place) (orders_among happened) ≡ true → get_or s.entries place false ≡ takes_part tables happened place
  unfolding takes_part
  part_of_on s stood within cs table = stood.each place within ∙ sym (rw (← stood.cs, cs, table) refl)

  pub no_part_cs : (s : Switches) → SwitchesStand tables happened s → s.cs ≡ false → false ≡ takes_part tables happened place
  unfolding takes_part
  no_part_cs s stood cs = sym (rw (← stood.cs, cs) refl)

  pub no_part_table : is_table_on (table_of place) (orders_among happened) ≡ false → false ≡ takes_part tables happened place
  unfolding takes_part
  no_part_table table = sym (rw table (by_case (is_cs_on (orders_among happened))))
    where
      by_case : (b : Bool) → (b && false && is_entry_on tables place (orders_since (table_of place) happened)) ≡ false
      by_case true = refl
      by_case false = refl
