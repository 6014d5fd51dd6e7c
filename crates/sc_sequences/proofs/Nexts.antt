-- The next command of a sequence.
use Rattle.std.proofs.Common.{◌≡◌, ℕ, ◌+◌, ◌<◌, ◌≤◌, true, false, List, [], ◌∷◌, length, drop, Option, Some, None, inl, inr, refl, sym, ap, ◌∙◌}
use Rattle.std.specs.Prelude.{is_some, nat_lt}
use Rattle.std.proofs.lemmas.Bool.{cases_lt, lt-ltb, le-ltb}
use Rattle.std.proofs.lemmas.List.{drop_more, drop_all}
use Rattle.packet_forms.specs.Packets.{shortest_packet}
use Rattle.sc_tables.specs.Commands.{TimedCommand}
use Rattle.sc_sequences.specs.Sequences.{command_in, Sequence, has_some, is_running, first_time}
use Rattle.sc_sequences.specs.State.{CursorStands}
use Rattle.sc_sequences.specs.declared.cursors.Cursor.{Cursor}

-- a sequence runs where its next command has a time
some_time : (base : ℕ) (commands : List TimedCommand) → is_some (first_time base commands) ≡ has_some commands
some_time base [] = refl
some_time base (c ∷ commands) = refl

pub runs_is : (commands : List TimedCommand) (s : Sequence) (c : Cursor) → CursorStands commands s c → is_some c.next ≡ is_running s
runs_is commands s c stood = ap is_some stood.next ∙ some_time s.base s.left

-- the next command of one that runs is that of its cursor
pub record HasHead (commands : List TimedCommand) (s : Sequence) (c : Cursor) : Type 0 where
  pub within : c.at < length commands
  pub left : s.left ≡ command_in commands c.at ∷ drop (c.at + 1) commands

pub none_timed : (base time : ℕ) (commands : List TimedCommand) → commands ≡ [] → first_time base commands ≡ Some time → ⊥
none_timed base time commands empty some = no_time (first_time base commands) (ap (first_time base) empty) some
  where
    no_time : (o : Option ℕ) → o ≡ None → o ≡ Some time → ⊥
    no_time o none there = cc

pub has_head : (commands : List TimedCommand) (s : Sequence) (c : Cursor) (time : ℕ) → CursorStands commands s c → c.next ≡ Some time → HasHead commands s c
has_head commands s c time stood runs =
    let left = stood.left time runs in
    elim (cases_lt c.at (length commands)) [
      | inl inside ↦ record { within = inside; left = sym left ∙ drop_more commands c.at _ inside }
      | inr past ↦ absurd (none_timed s.base time s.left (sym left ∙ drop_all c.at commands past) (sym stood.next ∙ runs))
    ]

-- whether commands are left from one on
pub some_left : (commands : List TimedCommand) (at : ℕ) → at < length commands → has_some (drop at commands) ≡ true
some_left commands at inside = ap has_some (drop_more commands at (record { tag = 0; packet = shortest_packet }) inside)

pub none_left : (commands : List TimedCommand) (at : ℕ) → length commands ≤ at → has_some (drop at commands) ≡ false
none_left commands at past = ap has_some (drop_all at commands past)

pub left_is : (commands : List TimedCommand) (at : ℕ) → nat_lt at (length commands) ≡ has_some (drop at commands)
left_is commands at = elim (cases_lt at (length commands)) [
  | inl inside ↦ lt-ltb at (length commands) inside ∙ sym (some_left commands at inside)
  | inr past ↦ le-ltb at (length commands) past ∙ sym (none_left commands at past)
]
