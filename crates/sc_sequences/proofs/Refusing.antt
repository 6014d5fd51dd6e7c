-- What refusals are asked by: what is loaded, what runs, and what remains from a time on.
use Rattle.std.proofs.Common.{◌≡◌, ◌≢◌, ℕ, ◌+◌, ◌<◌, Bool, true, false, not, cond, List, [], ◌∷◌, length, drop, Option, Some, None, refl, sym, ap, subst, ◌∙◌, arith, eq-eqb, ne_eqb}
use Rattle.std.specs.Prelude.{is_some, ◌==◌}
use Rattle.sc_tables.specs.Commands.{TimedCommand, commands_in}
use Rattle.sc_sequences.specs.Sequences.{Sequence, has_some, is_running, is_loaded, at_place, from_time, first_time, running_ats, ats_place, other_ats}
use Rattle.sc_sequences.specs.Verdicts.{start_ats_refusal, switch_refusal, jump_refusal}
use Rattle.sc_sequences.specs.Cursors.{cursor_in}
use Rattle.sc_sequences.specs.State.{CursorStands, CursorsStand}
use Rattle.sc_sequences.specs.declared.cursors.Cursor.{Cursor}
use Rattle.sc_sequences.specs.declared.verdicts.Refusal.TheVariants.{NotLoaded, Running, NoneRemains}

pub some_length : (commands : List TimedCommand) → has_some commands ≡ not (length commands == 0)
some_length [] = refl
some_length (c ∷ commands) = let apart : length (c ∷ commands) ≢ 0 = omega arith in sym (ap not (ne_eqb (length (c ∷ commands)) 0 apart))

-- one that runs has what its cursor says left
timed : (base : ℕ) (left : List TimedCommand) → has_some left ≡ true → (time : ℕ) × (first_time base left ≡ Some time)
timed base [] some = absurd cc
timed base (c ∷ left) some = (base + c.tag, refl)

pub left_running : (commands : List TimedCommand) (s : Sequence) (c : Cursor) → CursorStands commands s c → is_running s ≡ true → drop c.at commands ≡ s.left
left_running commands s c stood runs = let at = timed s.base s.left runs in stood.left at.0 (stood.next ∙ at.1)

pub running_runs : (all : List Sequence) (place : ℕ) → running_ats all ≡ Some place → is_running (at_place all place) ≡ true
running_runs all place found = by_first (is_running (at_place all 0)) (is_running (at_place all 1)) refl refl found
  where
    here : (p : ℕ) → is_running (at_place all p) ≡ true → ◌≡◌ {A = Option ℕ} (Some p) (Some place) → is_running (at_place all place) ≡ true
    here p runs same = let is : p ≡ place = cc in subst (λ (k : ℕ). is_running (at_place all k) ≡ true) is runs

    by_first : (a b : Bool) → is_running (at_place all 0) ≡ a → is_running (at_place all 1) ≡ b → cond a (Some 0) (cond b (Some 1) None) ≡ Some place → is_running (at_place all place) ≡ true
    by_first true b first second same = here 0 first same
    by_first false true first second same = here 1 second same
    by_first false false first second same = absurd cc

module _ (tables : List (List TimedCommand)) (all : List Sequence) (cursors : List Cursor) (stood : CursorsStand tables all cursors) (place : ℕ) (inside : place < 66) where
  -- whether a sequence is loaded, by the number of its commands
  pub loaded_is : (count : ℕ) → count ≡ length (commands_in tables place) → is_loaded (at_place all place) ≡ not (count == 0)
  loaded_is count counted = ap has_some (stood.each place inside).loaded ∙ some_length (commands_in tables place) ∙ ap (λ (n : ℕ). not (n == 0)) (sym counted)

  pub is_there : (count : ℕ) → count ≡ length (commands_in tables place) → count ≢ 0 → is_loaded (at_place all place) ≡ true
  is_there count counted some = loaded_is count counted ∙ ap not (ne_eqb count 0 some)

  pub not_there : (count : ℕ) → count ≡ length (commands_in tables place) → count ≡ 0 → is_loaded (at_place all place) ≡ false
  not_there count counted none = loaded_is count counted ∙ ap not (eq-eqb count 0 none)

  -- whether any of its commands remain
  pub remains_is : (time : ℕ) (b : Bool) → b ≡ has_some (from_time time (drop 0 (commands_in tables place))) → has_some (from_time time (at_place all place).loaded) ≡ b
  remains_is time b is = ap (λ (commands : List TimedCommand). has_some (from_time time commands)) (stood.each place inside).loaded ∙ sym is

  pub left_remains : (time : ℕ) (b : Bool) → is_running (at_place all place) ≡ true → b ≡ has_some (from_time time (drop (cursor_in cursors place).at (commands_in tables place))) → has_some (from_time time (at_place all place).left) ≡ b
  left_remains time b runs is = ap (λ (commands : List TimedCommand). has_some (from_time time commands)) (sym (left_running (commands_in tables place) (at_place all place) (cursor_in cursors place) (stood.each place inside) runs)) ∙ sym is

-- the refusals by these
pub start_ats_by : (now number place : ℕ) (all : List Sequence) (running remains : Bool) → ats_place number ≡ Some place → is_loaded (at_place all place) ≡ true → is_some (running_ats all) ≡ running → has_some (from_time now (at_place all place).loaded) ≡ remains
    → start_ats_refusal now all (ats_place number) ≡ cond running (Some Running) (cond (not remains) (Some NoneRemains) None)
start_ats_by now number place all running remains placed there runs remain =
    ap (start_ats_refusal now all) placed
    ∙ ap (λ (b : Bool). cond (not b) (Some NotLoaded) (cond (is_some (running_ats all)) (Some Running) (cond (not (has_some (from_time now (at_place all place).loaded))) (Some NoneRemains) None))) there
    ∙ ap (λ (b : Bool). cond b (Some Running) (cond (not (has_some (from_time now (at_place all place).loaded))) (Some NoneRemains) None)) runs
    ∙ ap (λ (b : Bool). cond running (Some Running) (cond (not b) (Some NoneRemains) None)) remain

pub switch_by : (now place : ℕ) (all : List Sequence) (there remains : Bool) → running_ats all ≡ Some place → is_loaded (at_place all (other_ats place)) ≡ there → has_some (from_time now (at_place all (other_ats place)).loaded) ≡ remains
    → switch_refusal now all (running_ats all) ≡ cond (not there) (Some NotLoaded) (cond (not remains) (Some NoneRemains) None)
switch_by now place all there remains runs loaded remain =
    ap (switch_refusal now all) runs
    ∙ ap (λ (b : Bool). cond (not b) (Some NotLoaded) (cond (not (has_some (from_time now (at_place all (other_ats place)).loaded))) (Some NoneRemains) None)) loaded
    ∙ ap (λ (b : Bool). cond (not there) (Some NotLoaded) (cond (not b) (Some NoneRemains) None)) remain

pub jump_by : (time place : ℕ) (all : List Sequence) (remains : Bool) → running_ats all ≡ Some place → has_some (from_time time (at_place all place).left) ≡ remains
    → jump_refusal time all (running_ats all) ≡ cond remains None (Some NoneRemains)
jump_by time place all remains runs remain = ap (jump_refusal time all) runs ∙ ap (λ (b : Bool). cond b None (Some NoneRemains)) remain
