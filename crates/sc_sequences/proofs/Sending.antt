-- A command that leaves: where its sequence then stands, and what it gives.
use Rattle.std.proofs.Common.{◌≡◌, ℕ, ◌+◌, ◌%◌, ◌<◌, Bool, false, not, cond, List, [], ◌∷◌, length, drop, set, map, Some, inl, inr, refl, sym, ap, subst, ◌∙◌, arith}
use Rattle.std.specs.Prelude.{nat_le}
use Rattle.std.proofs.lemmas.Bool.{cases_lt, le-leb, lt-leb, lt-ltb, le-ltb}
use Rattle.std.proofs.lemmas.List.{length-map}
use Rattle.packet_forms.specs.Packets.{is_checksum_right}
use Rattle.bus_pipes.specs.Held.{Held, adding}
use Rattle.bus_pipes.specs.declared.names.Out.{Out}
use Rattle.sc_tables.specs.Commands.{TimedCommand, commands_in, command_at}
use Rattle.sc_sequences.specs.Sequences.{Sequence, command_in, has_some, at_place, with_at, going_on, head_time}
use Rattle.sc_sequences.specs.Answers.{ending_items, head_items}
use Rattle.sc_sequences.specs.Turns.{Sequences, soonest, place_due, left_behind, leaving}
use Rattle.sc_sequences.specs.Cursors.{cursor_in, next_times}
use Rattle.sc_sequences.specs.State.{CursorsStand, DutyStands}
use Rattle.sc_sequences.specs.declared.cursors.Cursor.{Cursor}
use Rattle.sc_sequences.specs.declared.duty.Duty.{Duty}
use Rattle.sc_sequences.proofs.Nexts.{has_head, left_is}
use Rattle.sc_sequences.proofs.Takes.{place_is}
use Rattle.sc_sequences.proofs.Firsts.{next_comes, inside, head_in}

-- the end isn't told where commands are left
pub none_ends : (place now : ℕ) (left : List TimedCommand) → false ≡ not (has_some left) → ending_items place now left ≡ []
none_ends place now [] goes = absurd cc
none_ends place now (c ∷ left) goes = refl

-- whether none are left from one on
pub ended_is : (commands : List TimedCommand) (at : ℕ) → nat_le (length commands) at ≡ not (has_some (drop at commands))
ended_is commands at = elim (cases_lt at (length commands)) [
  | inl within ↦ lt-leb (length commands) at within ∙ ap not (sym (lt-ltb at (length commands) within) ∙ left_is commands at)
  | inr past ↦ le-leb (length commands) at past ∙ ap not (sym (le-ltb at (length commands) past) ∙ left_is commands at)
]

-- a place that is due has a command that is next
pub due_inside : (tables : List (List TimedCommand)) (all : List Sequence) (cursors : List Cursor) (now place : ℕ) → CursorsStand tables all cursors → place_due now (soonest (next_times cursors)) ≡ Some place → place < 66
due_inside tables all cursors now place stood due =
    let comes = next_comes now all place (sym (place_is tables all cursors now stood) ∙ due) in
    let within = inside (map head_time all) place comes.0 (head_in all place ∙ comes.1.here) in
    let long = length-map all head_time in
    let whole = stood.whole in
    omega arith

pub due_runs : (tables : List (List TimedCommand)) (all : List Sequence) (cursors : List Cursor) (now place : ℕ) → CursorsStand tables all cursors → place_due now (soonest (next_times cursors)) ≡ Some place → (time : ℕ) × ((cursor_in cursors place).next ≡ Some time)
due_runs tables all cursors now place stood due =
    let comes = next_comes now all place (sym (place_is tables all cursors now stood) ∙ due) in
    (comes.0, (stood.each place (due_inside tables all cursors now place stood due)).next ∙ comes.1.here)

module _ (tables : List (List TimedCommand)) (s : Sequences) (now place at next time : ℕ) (right : Bool) (packet : List ℕ) (cursors : List Cursor) (stood : CursorsStand tables s.all cursors) (inside : place < 66)
    (runs : (cursor_in cursors place).next ≡ Some time) (at_is : at ≡ (cursor_in cursors place).at) (packet_is : packet ≡ (command_at tables place at).packet) (right_is : right ≡ is_checksum_right packet)
    (next_is : drop next (commands_in tables place) ≡ left_behind place right (drop (at + 1) (commands_in tables place))) where
  one : TimedCommand
  one = command_in (commands_in tables place) (cursor_in cursors place).at

  rest : List TimedCommand
  rest = drop ((cursor_in cursors place).at + 1) (commands_in tables place)

  left : (at_place s.all place).left ≡ one ∷ rest
  unfolding one rest
  left = (has_head (commands_in tables place) (at_place s.all place) (cursor_in cursors place) time (stood.each place inside) runs).left

  same_packet : packet ≡ one.packet
  unfolding one
  same_packet = packet_is ∙ ap (λ (k : ℕ). (command_in (commands_in tables place) k).packet) at_is

  checked : right ≡ is_checksum_right one.packet
  checked = right_is ∙ ap is_checksum_right same_packet

  behind : drop next (commands_in tables place) ≡ left_behind place (is_checksum_right one.packet) rest
  unfolding rest
  behind =
      next_is ∙ ap (λ (k : ℕ). left_behind place right (drop (k + 1) (commands_in tables place))) at_is
      ∙ ap (λ (b : Bool). left_behind place b (drop ((cursor_in cursors place).at + 1) (commands_in tables place))) checked

  pub leaves_stand : (new : Duty) (middle : List Cursor) → CursorsStand tables (with_at place (going_on place now (drop next (commands_in tables place))) s.all) middle → new.cursors ≡ middle
      → new.sent ≡ cond right (s.sent + 1) s.sent % 65536 → new.wrong ≡ cond right s.wrong (s.wrong + 1) % 65536 → DutyStands tables (leaving now s place (at_place s.all place).left).after new
  leaves_stand new middle went same sent wrong =
      let q = at_place s.all place in
      subst (λ (commands : List TimedCommand). DutyStands tables (leaving now s place commands).after new) (sym left)
      (record {
        cursors =
            subst (λ (cs : List Cursor). CursorsStand tables (set s.all place (going_on place now (left_behind place (is_checksum_right one.packet) rest) q)) cs) (sym same)
            (subst (λ (commands : List TimedCommand). CursorsStand tables (set s.all place (going_on place now commands q)) middle) behind went);
        sent = sent ∙ ap (λ (b : Bool). cond b (s.sent + 1) s.sent % 65536) checked;
        wrong = wrong ∙ ap (λ (b : Bool). cond b s.wrong (s.wrong + 1) % 65536) checked;
      })

  pub leaves_items : (start end : Held Out) (ends : Bool) → ends ≡ nat_le (length (commands_in tables place)) next
      → ((commands : List TimedCommand) → ends ≡ not (has_some commands) → end ≡ adding start (head_items place now right packet commands)) → end ≡ adding start (leaving now s place (at_place s.all place).left).items
  leaves_items start end ends ends_is sends =
      let kept = left_behind place (is_checksum_right one.packet) rest in
      sends kept (ends_is ∙ ended_is (commands_in tables place) next ∙ ap (λ (commands : List TimedCommand). not (has_some commands)) behind)
      ∙ ap (λ (p : List ℕ). adding start (head_items place now right p kept)) same_packet
      ∙ ap (λ (b : Bool). adding start (head_items place now b one.packet kept)) checked
      ∙ sym (ap (λ (commands : List TimedCommand). adding start (leaving now s place commands).items) left)
