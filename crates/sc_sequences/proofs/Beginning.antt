-- The cursors at the start.
use Rattle.std.proofs.Common.{◌≡◌, ◌≢◌, ℕ, zero, suc, Bool, true, false, not, cond, List, [], ◌∷◌, length, map, set, replicate, None, refl, sym, ap, subst, ◌∙◌, arith, ne_eqb}
use Rattle.std.specs.Prelude.{◌==◌}
use Rattle.std.proofs.lemmas.List.{length-map, length-replicate, get_or-replicate, set-get_or}
use Rattle.sc_tables.specs.Commands.{TimedCommand, commands_in}
use Rattle.sc_sequences.specs.Sequences.{Sequence, is_loaded, waiting, at_place, going_on}
use Rattle.sc_sequences.specs.Histories.{begun_at, first_started, at_start}
use Rattle.sc_sequences.specs.Cursors.{cursor_in}
use Rattle.sc_sequences.specs.State.{CursorStands, CursorsStand}
use Rattle.sc_sequences.specs.declared.cursors.Cursor.{Cursor}
use Rattle.sc_sequences.proofs.Changes.{set_stands}
use Rattle.sc_sequences.proofs.Refusing.{some_length}

pub waiting_at : (tables : List (List TimedCommand)) (k : ℕ) → at_place (map waiting tables) k ≡ waiting (commands_in tables k)
waiting_at [] k = refl
waiting_at (commands ∷ tables) zero = refl
waiting_at (commands ∷ tables) (suc k) = waiting_at tables k

-- a cursor that waits
abbrev resting : Cursor
resting = record { next = None; at = 0; enabled = false }

rests : (commands : List TimedCommand) → CursorStands commands (waiting commands) resting
rests commands = record { loaded = refl; next = refl; left = λ time some. absurd cc; enabled = refl }

-- all wait
all_rest : (tables : List (List TimedCommand)) → length tables ≡ 66 → CursorsStand tables (map waiting tables) (replicate 66 resting)
all_rest tables whole = record {
  whole = length-map tables waiting ∙ whole;
  places = length-replicate 66 resting;
  each = λ k below.
      subst (λ (s : Sequence). CursorStands (commands_in tables k) s (cursor_in (replicate 66 resting) k)) (sym (waiting_at tables k))
      (subst (λ (c : Cursor). CursorStands (commands_in tables k) (waiting (commands_in tables k)) c) (sym (get_or-replicate 66 k resting resting below)) (rests (commands_in tables k)));
}

-- where the first relative sequence isn't loaded
pub begins_waiting : (tables : List (List TimedCommand)) (now count : ℕ) → length tables ≡ 66 → count ≡ length (commands_in tables 2) → count ≡ 0 → CursorsStand tables (at_start (begun_at now tables)).all (replicate 66 resting)
unfolding at_start
begins_waiting tables now count whole counted none =
    let there : is_loaded (at_place (map waiting tables) 2) ≡ false = ap is_loaded (waiting_at tables 2) ∙ some_length (commands_in tables 2) ∙ ap (λ (n : ℕ). not (n == 0)) (sym counted ∙ none) in
    subst (λ (s : Sequence). CursorsStand tables (set (map waiting tables) 2 s) (replicate 66 resting))
    (sym (ap (λ (b : Bool). let s : Sequence = at_place (map waiting tables) 2 in let started : Sequence = record (going_on 2 now s.loaded s) { enabled = true } in cond b started s) there))
    (subst (λ (all : List Sequence). CursorsStand tables all (replicate 66 resting)) (sym (set-get_or (map waiting tables) 2 (waiting []))) (all_rest tables whole))

-- and where it is
pub begins_started : (tables : List (List TimedCommand)) (now count : ℕ) (c : Cursor) → length tables ≡ 66 → count ≡ length (commands_in tables 2) → count ≢ 0
    → CursorStands (commands_in tables 2) (let s : Sequence = waiting (commands_in tables 2) in record (going_on 2 now (commands_in tables 2) s) { enabled = true }) c
    → CursorsStand tables (at_start (begun_at now tables)).all (set (replicate 66 resting) 2 c)
unfolding at_start
begins_started tables now count c whole counted some stood =
    let there : is_loaded (at_place (map waiting tables) 2) ≡ true = ap is_loaded (waiting_at tables 2) ∙ some_length (commands_in tables 2) ∙ ap (λ (n : ℕ). not (n == 0)) (sym counted) ∙ ap not (ne_eqb count 0 some) in
    set_stands tables (map waiting tables) (replicate 66 resting) 2 (first_started now (at_place (map waiting tables) 2)) c (omega arith) (all_rest tables whole)
    (subst (λ (s : Sequence). CursorStands (commands_in tables 2) s c)
    (sym (ap (λ (b : Bool). let s : Sequence = at_place (map waiting tables) 2 in let started : Sequence = record (going_on 2 now s.loaded s) { enabled = true } in cond b started s) there
    ∙ ap (λ (s : Sequence). let started : Sequence = record (going_on 2 now s.loaded s) { enabled = true } in started) (waiting_at tables 2)))
    stood)
