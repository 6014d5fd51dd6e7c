-- Turns, one more of them, and where none is due.
use Rattle.std.proofs.Common.{◌≡◌, ℕ, zero, suc, ◌+◌, ◌<◌, ◌≤◌, ◌-◌, List, [], ◌++◌, length, map, get_or, Option, Some, None, refl, sym, ap, ◌∙◌, arith, append-nil, add-one}
use Rattle.bus_pipes.specs.declared.names.Out.{Out}
use Rattle.std.proofs.lemmas.List.{length-map, get_or-map, same_lists}
use Rattle.sc_tables.specs.Commands.{TimedCommand}
use Rattle.sc_sequences.specs.Sequences.{Sequence, at_place, waiting, head_time}
use Rattle.sc_sequences.specs.Cursors.{next_times}
use Rattle.sc_sequences.specs.Turns.{Sequences, Done, nothing, and_then, soonest, place_due, next_place, leaving, turn_of, turn, turns}
use Rattle.sc_sequences.specs.State.{CursorsStand}
use Rattle.sc_sequences.specs.declared.cursors.Cursor.{Cursor}

-- no turn, and one more
pub turns_none : (now : ℕ) (s : Sequences) → turns 0 now s ≡ nothing s
unfolding turns
turns_none now s = refl

pub turns_more : (n now : ℕ) (s : Sequences) → turns (n + 1) now s ≡ and_then (turns n now s) (turn now)
unfolding turns
turns_more n now s = rw add-one refl

-- the cursors have the times of the next commands
times_are : (tables : List (List TimedCommand)) (all : List Sequence) (cursors : List Cursor) → CursorsStand tables all cursors → next_times cursors ≡ map head_time all
times_are tables all cursors stood =
    same_lists (next_times cursors) (map head_time all) (length-map cursors (λ (c : Cursor). c.next) ∙ stood.places ∙ sym stood.whole ∙ sym (length-map all head_time))
    (λ k d below. at_k k d (let m = length-map cursors (λ (c : Cursor). c.next) in let p = stood.places in omega arith))
  where
    at_k : (k : ℕ) (d : Option ℕ) → k < 66 → get_or (next_times cursors) k d ≡ get_or (map head_time all) k d
    at_k k d below =
        let long : k < length all = (let w = stood.whole in omega arith) in
        let wide : k < length cursors = (let w = stood.places in omega arith) in
        get_or-map (λ (c : Cursor). c.next) cursors k (record { next = None; at = 0; enabled = _ }) d wide
        ∙ (stood.each k below).next
        ∙ sym (get_or-map head_time all k (waiting []) d long)

-- so the place that is due by them is the next one
pub place_is : (tables : List (List TimedCommand)) (all : List Sequence) (cursors : List Cursor) (now : ℕ) → CursorsStand tables all cursors → place_due now (soonest (next_times cursors)) ≡ next_place now all
unfolding next_place
place_is tables all cursors now stood = ap (λ (times : List (Option ℕ)). place_due now (soonest times)) (times_are tables all cursors stood)

-- a turn in which one leaves, and one in which none is due
pub turn_taken : (now place : ℕ) (s : Sequences) → next_place now s.all ≡ Some place → turn now s ≡ leaving now s place (at_place s.all place).left
unfolding turn
turn_taken now place s next = ap (turn_of now s) next

pub turn_idle : (now : ℕ) (s : Sequences) → next_place now s.all ≡ None → turn now s ≡ nothing s
unfolding turn
turn_idle now s next = ap (turn_of now s) next

-- nothing more is done then
and_nothing : (done : Done) → and_then done nothing ≡ done
and_nothing done = ap (λ (items : List Out). let all : Done = record { after = done.after; items = items } in all) (append-nil done.items)

idle_more : (n m k now : ℕ) (s : Sequences) → n ≡ m + k → next_place now (turns k now s).after.all ≡ None → turns n now s ≡ turns k now s
unfolding turns
idle_more n zero k now s is idle = ap (λ (i : ℕ). turns i now s) (let same : n ≡ k = omega arith in same)
idle_more zero (suc m) k now s is idle = absurd (omega arith)
idle_more (suc n) (suc m) k now s is idle =
    let before = idle_more n m k now s (let one : n ≡ m + k = omega arith in one) idle in
    ap (λ (done : Done). and_then done (turn now)) before
    ∙ ap (λ (next : Done). let all : Done = record { after = next.after; items = (turns k now s).items ++ next.items } in all) (turn_idle now (turns k now s).after idle)
    ∙ and_nothing (turns k now s)

pub turns_idle : (n k now : ℕ) (s : Sequences) → k ≤ n → next_place now (turns k now s).after.all ≡ None → turns n now s ≡ turns k now s
turns_idle n k now s few idle = idle_more n (n - k) k now s (omega arith) idle

-- one more turn, in which a command leaves
pub turns_taken : (n now place : ℕ) (s : Sequences) → next_place now (turns n now s).after.all ≡ Some place
    → turns (n + 1) now s ≡ and_then (turns n now s) (λ (m : Sequences). leaving now m place (at_place m.all place).left)
turns_taken n now place s next =
    turns_more n now s
    ∙ ap (λ (done : Done). let all : Done = record { after = done.after; items = (turns n now s).items ++ done.items } in all) (turn_taken now place (turns n now s).after next)
