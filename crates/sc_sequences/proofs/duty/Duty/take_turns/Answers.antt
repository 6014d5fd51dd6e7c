use Rattle.std.proofs.Common.{◌≡◌, Some, None, refl, sym, ap, subst, ◌∙◌, arith}
use Rattle.bus_pipes.specs.Held.{Held, adding}
use Rattle.bus_pipes.specs.declared.names.Out.{Out}
use Rattle.bus_pipes.proofs.Deliveries.{adding_none, adding_more}
use Rattle.sc_sequences.specs.Sequences.{at_place}
use Rattle.sc_sequences.specs.Turns.{Sequences, Done, next_place, leaving, turns}
use Rattle.sc_sequences.specs.State.{DutyStands}
use Rattle.sc_sequences.proofs.Takes.{turns_none, turns_idle, turns_taken, place_is}
use Rattle.sc_sequences.proofs.Sending.{due_inside, due_runs}
use Rattle.sc_sequences.proofs.duty.Duty.take_turns.Goals as goal
use Rattle.sc_sequences.proofs.duty.Duty.take_turns.Goals.{In_default, After-leave}

pub turns-init : goal.turns-init
turns-init c = record {
  started = c.requires.started;
  stands = λ s stood. subst (λ (done : Done). DutyStands c.args.tables.now done.after c.args.self.now) (sym (turns_none c.args.now s)) stood;
  items = λ s stood. sym (ap (λ (done : Done). adding c.args.out.now done.items) (turns_none c.args.now s) ∙ adding_none c.args.out.now);
  counted = λ all. all;
  few = omega arith;
  room = refl;
}

-- no turn more does anything where none is due
same : (c : In_default) (s : Sequences) → DutyStands c.args.tables.now s c.args.self.now → turns 8 c.args.now s ≡ turns c.turns.turn c.args.now s
same c s stood =
    let done = turns c.turns.turn c.args.now s in
    let stands = c.turns.invariant.stands s stood in
    let idle : next_place c.args.now done.after.all ≡ None = sym (place_is c.args.tables.now done.after.all c.turns.self.cursors c.args.now stands.cursors) ∙ sym c.due.ensures.place ∙ c.in_default.is in
    turns_idle 8 c.turns.turn c.args.now s (omega arith) idle

pub returns-in_default-clause-stands : goal.returns-in_default-clause-stands
returns-in_default-clause-stands c = λ s stood. subst (λ (done : Done). DutyStands c.args.tables.now done.after c.turns.self) (sym (same c s stood)) (c.turns.invariant.stands s stood)

pub returns-in_default-clause-items : goal.returns-in_default-clause-items
returns-in_default-clause-items c = λ s stood. c.turns.invariant.items s stood ∙ ap (λ (done : Done). adding c.args.out.now done.items) (sym (same c s stood))

pub leave-requires-clause-within : goal.leave-requires-clause-within
leave-requires-clause-within c =
    let started = c.turns.invariant.started in
    due_inside c.args.tables.now started.0.all c.turns.self.cursors c.args.now c.in-Some.place started.1.cursors (sym c.due.ensures.place ∙ c.in-Some.is)

pub leave-requires-clause-runs : goal.leave-requires-clause-runs
leave-requires-clause-runs c =
    let started = c.turns.invariant.started in
    due_runs c.args.tables.now started.0.all c.turns.self.cursors c.args.now c.in-Some.place started.1.cursors (sym c.due.ensures.place ∙ c.in-Some.is)

-- the turn in which a command left
taken : (c : After-leave) (s : Sequences) → DutyStands c.args.tables.now s c.args.self.now → next_place c.args.now (turns c.turns.turn c.args.now s).after.all ≡ Some c.in-Some.place
taken c s stood =
    let stands = c.turns.invariant.stands s stood in
    sym (place_is c.args.tables.now (turns c.turns.turn c.args.now s).after.all c.turns.self.cursors c.args.now stands.cursors) ∙ sym c.due.ensures.place ∙ c.in-Some.is

pub turns-preserved : goal.turns-preserved
turns-preserved c =
    let tables = c.args.tables.now in
    let now = c.args.now in
    let n = c.turns.turn in
    let place = c.in-Some.place in
    let started = c.turns.invariant.started in
    record {
      started = ((leaving now started.0 place (at_place started.0.all place).left).after, c.leave.ensures.stands started.0 started.1);
      stands = λ s stood.
          subst (λ (done : Done). DutyStands tables done.after c.leave.new.self) (sym (turns_taken n now place s (taken c s stood)))
          (c.leave.ensures.stands (turns n now s).after (c.turns.invariant.stands s stood));
      items = λ s stood.
          let m = (turns n now s).after in
          c.leave.ensures.items m (c.turns.invariant.stands s stood)
          ∙ ap (λ (held : Held Out). adding held (leaving now m place (at_place m.all place).left).items) (c.turns.invariant.items s stood)
          ∙ adding_more c.args.out.now (turns n now s).items (leaving now m place (at_place m.all place).left).items
          ∙ ap (λ (done : Done). adding c.args.out.now done.items) (sym (turns_taken n now place s (taken c s stood)));
      counted = λ all. c.leave.ensures.counted (c.turns.invariant.counted all);
      few = (let more = c.leave.ensures.few in let held = c.turns.invariant.few in omega arith);
      room = c.leave.ensures.room ∙ c.turns.invariant.room;
    }
