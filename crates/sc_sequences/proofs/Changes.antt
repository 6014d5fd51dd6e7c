-- The cursors at a change in one place.
use Rattle.std.proofs.Common.{◌≡◌, ℕ, ◌<◌, List, [], length, get_or, set, Option, Some, None, inl, inr, sym, subst, ◌∙◌, arith}
use Rattle.std.proofs.lemmas.Bool.{cases_eq}
use Rattle.std.proofs.lemmas.List.{get_or-set_same, get_or-set_other, length-set, length-map, get_or-map, same_lists, get_or_default}
use Rattle.sc_tables.specs.Commands.{TimedCommand, commands_in}
use Rattle.sc_sequences.specs.Sequences.{Sequence, at_place, waiting, tables_of}
use Rattle.sc_sequences.specs.Orders.{where_placed}
use Rattle.sc_sequences.specs.Cursors.{cursor_in}
use Rattle.sc_sequences.specs.State.{CursorStands, CursorsStand}
use Rattle.sc_sequences.specs.declared.cursors.Cursor.{Cursor}

-- what stands in the places of both lists
abbrev StandsIn : List (List TimedCommand) → List Sequence → List Cursor → ℕ → Type 0
StandsIn tables all cursors k = CursorStands (commands_in tables k) (at_place all k) (cursor_in cursors k)

pub set_stands : (tables : List (List TimedCommand)) (all : List Sequence) (cursors : List Cursor) (place : ℕ) (s : Sequence) (c : Cursor) → place < 66 → CursorsStand tables all cursors → CursorStands (commands_in tables place) s c
    → CursorsStand tables (set all place s) (set cursors place c)
set_stands tables all cursors place s c inside stood here = record {
  whole = length-set all place s ∙ stood.whole;
  places = length-set cursors place c ∙ stood.places;
  each = λ k below. elim (cases_eq k place) [
    | inl same ↦ subst (λ (j : ℕ). StandsIn tables (set all place s) (set cursors place c) j) (sym same) changed
    | inr other ↦ unchanged k below other
  ];
}
  where
    changed : StandsIn tables (set all place s) (set cursors place c) place
    changed =
        let long : place < length all = (let w = stood.whole in omega arith) in
        let wide : place < length cursors = (let w = stood.places in omega arith) in
        rw (get_or-set_same all place s (waiting []) long, get_or-set_same cursors place c (record { next = None; at = 0; enabled = _ }) wide) here

    unchanged : (k : ℕ) → k < 66 → (k ≡ place → ⊥) → StandsIn tables (set all place s) (set cursors place c) k
    unchanged k below other = rw (get_or-set_other all place k s (waiting []) other, get_or-set_other cursors place k c _ other) (stood.each k below)

-- the tables are what is loaded
pub tables_are : (tables : List (List TimedCommand)) (all : List Sequence) (cursors : List Cursor) → length tables ≡ 66 → CursorsStand tables all cursors → tables_of all ≡ tables
tables_are tables all cursors whole stood =
    same_lists (tables_of all) tables (length-map all (λ (s : Sequence). s.loaded) ∙ stood.whole ∙ sym whole)
    (λ k d below. at_k k d (let w = stood.whole in let m = length-map all (λ (s : Sequence). s.loaded) in omega arith))
  where
    at_k : (k : ℕ) (d : List TimedCommand) → k < 66 → get_or (tables_of all) k d ≡ get_or tables k d
    at_k k d below =
        let long : k < length all = (let w = stood.whole in omega arith) in
        let wide : k < length tables = (let w = whole in omega arith) in
        get_or-map (λ (s : Sequence). s.loaded) all k (waiting []) d long ∙ (stood.each k below).loaded ∙ get_or_default tables k [] d wide

-- a change of the sequence in a place that there is
pub placed_stands : (tables : List (List TimedCommand)) (all : List Sequence) (cursors : List Cursor) (o : Option ℕ) (place : ℕ) (change : ℕ → List Sequence → List Sequence) → o ≡ Some place
    → CursorsStand tables (change place all) cursors → CursorsStand tables (where_placed o change all) cursors
placed_stands tables all cursors o place change is stood = subst (λ (p : Option ℕ). CursorsStand tables (where_placed p change all) cursors) (sym is) stood

pub unplaced_stands : (tables : List (List TimedCommand)) (all : List Sequence) (cursors : List Cursor) (o : Option ℕ) (change : ℕ → List Sequence → List Sequence) → o ≡ None
    → CursorsStand tables all cursors → CursorsStand tables (where_placed o change all) cursors
unplaced_stands tables all cursors o change is stood = subst (λ (p : Option ℕ). CursorsStand tables (where_placed p change all) cursors) (sym is) stood
