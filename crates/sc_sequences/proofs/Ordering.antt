-- The commands of an absolute sequence from a time on: its commands are in order of time.
use Rattle.std.proofs.Common.{◌≡◌, ℕ, zero, suc, ◌+◌, ◌<◌, ◌≤◌, List, [], ◌∷◌, length, drop, refl, ap, arith}
use Rattle.std.proofs.lemmas.Bool.{le-leb, lt-leb}
use Rattle.std.proofs.lemmas.List.{drop_more, drop_all, get_or-drop, length-drop}
use Rattle.packet_forms.specs.Packets.{shortest_packet}
use Rattle.sc_tables.specs.Commands.{TimedCommand, AreTables, commands_in}
use Rattle.sc_sequences.specs.Sequences.{command_in, from_time}

-- all are late enough
all_from : (time : ℕ) (commands : List TimedCommand) → ((j : ℕ) → j < length commands → time ≤ (command_in commands j).tag) → from_time time commands ≡ commands
unfolding from_time
all_from time [] late = refl
all_from time (c ∷ commands) late =
    let first : time ≤ c.tag = late zero (omega arith) in
    rw (le-leb time c.tag first) (ap (λ (more : List TimedCommand). c ∷ more) (all_from time commands (λ j below. late (suc j) (omega arith))))

-- so they are from one on that is
pub rest_from : (tables : List (List TimedCommand)) (place at time : ℕ) → place < 2 → AreTables tables → at < length (commands_in tables place) → time ≤ (command_in (commands_in tables place) at).tag
    → from_time time (drop at (commands_in tables place)) ≡ drop at (commands_in tables place)
rest_from tables place at time two are inside late =
    all_from time (drop at (commands_in tables place)) (λ j below. later j (let long = length-drop at (commands_in tables place) in omega arith))
  where
    later : (j : ℕ) → at + j < length (commands_in tables place) → time ≤ (command_in (drop at (commands_in tables place)) j).tag
    later j below =
        let far = are.in_order place two at (at + j) (record { tag = 0; packet = shortest_packet }) (omega arith) below in
        rw (get_or-drop at (commands_in tables place) j (record { tag = 0; packet = shortest_packet })) (omega arith)

-- one that isn't is skipped
pub skip_early : (commands : List TimedCommand) (at time : ℕ) → at < length commands → (command_in commands at).tag < time → from_time time (drop at commands) ≡ from_time time (drop (at + 1) commands)
unfolding from_time
skip_early commands at time inside early =
    rw (drop_more commands at (record { tag = 0; packet = shortest_packet }) inside, lt-leb time (command_in commands at).tag early) refl

-- and none remain behind all
pub none_from : (commands : List TimedCommand) (at time : ℕ) → length commands ≤ at → from_time time (drop at commands) ≡ []
unfolding from_time
none_from commands at time past = ap (from_time time) (drop_all at commands past)
