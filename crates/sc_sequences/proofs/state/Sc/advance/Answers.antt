use Rattle.std.proofs.Common.{◌≡◌, ◌++◌, ◌∷◌, [], List, refl, sym, ap, subst, ◌∙◌}
use Rattle.histories.specs.Entries.Entry.{Woken}
use Rattle.bus_pipes.specs.Held.{Held}
use Rattle.bus_pipes.specs.declared.names.Out.{Out}
use Rattle.bus_pipes.proofs.Deliveries.{items-adding}
use Rattle.commands.specs.Counting.{counts_of}
use Rattle.commands.specs.Answering.{command_items}
use Rattle.sc_sequences.specs.Messages.{sc_name}
use Rattle.sc_sequences.specs.Turns.{Sequences}
use Rattle.sc_sequences.specs.Histories.{Input, ScEntry, Beginning, input_of, sequences_of, tables_after, ordered, ordered_at, heard_at, turned}
use Rattle.sc_sequences.specs.Step.{wakeup_of, sc_answers, sc_items}
use Rattle.sc_sequences.specs.State.{DutyStands, Stands}
use Rattle.sc_sequences.proofs.Waking.{sequences_more, heard_woken, unordered, on_tables}
use Rattle.sc_sequences.proofs.Loaded.{tables_woken}
use Rattle.sc_sequences.proofs.state.Sc.advance.Goals as goal
use Rattle.sc_sequences.proofs.state.Sc.advance.Goals.{After-take_turns}

pub handle_all-requires-clause-safe : goal.handle_all-requires-clause-safe
unfolding Stands
handle_all-requires-clause-safe c =
    let ready = c.requires.ready in
    let s = sequences_of ready.begin ready.history in
    (s, on_tables (tables_after ready.begin ready.history) c.args.tables.now s c.args.self.now.duty (sym ready.in_force) ready.stands.duty)

-- before its first command
begins : (c : After-take_turns) (begin : Beginning) (history : List ScEntry) → Stands begin history c.args.self.now → DutyStands (tables_after begin history) (ordered c.args.now [] (sequences_of begin history)) c.args.self.now.duty
unfolding Stands
begins c begin history stood = subst (λ (s : Sequences). DutyStands (tables_after begin history) s c.args.self.now.duty) (sym (unordered c.args.now (sequences_of begin history))) stood.duty

-- behind its commands
handled : (c : After-take_turns) (begin : Beginning) (history : List ScEntry) → c.args.tables.now ≡ tables_after begin history → Stands begin history c.args.self.now
    → DutyStands c.args.tables.now (ordered c.args.now (ordered_at (sequences_of begin history) (input_of c.args.now c.args.commands.now)) (sequences_of begin history)) c.handle_all.new.state
handled c begin history in_force stood =
    let input : Input = input_of c.args.now c.args.commands.now in
    let s = sequences_of begin history in
    on_tables (tables_after begin history) c.args.tables.now (ordered c.args.now (ordered_at s input) s) c.handle_all.new.state (sym in_force)
    (c.handle_all.ensures.stands (wakeup_of begin history input) (in_force, refl) (begins c begin history stood))

woken : (c : After-take_turns) (begin : Beginning) (history : List ScEntry) → c.args.tables.now ≡ tables_after begin history → Stands begin history c.args.self.now
    → Stands begin (history ++ Woken (input_of c.args.now c.args.commands.now) ∷ []) (record { counts = c.handle_all.new.counts; duty = c.take_turns.new.self })
unfolding Stands
woken c begin history in_force stood =
    let input : Input = input_of c.args.now c.args.commands.now in
    let s = sequences_of begin history in
    let after = history ++ Woken input ∷ [] in
    record {
      counts = c.handle_all.ensures.counts (wakeup_of begin history input) (in_force, refl) (begins c begin history stood) stood.counts ∙ ap counts_of (sym (heard_woken begin history input));
      duty =
          subst (λ (m : Sequences). DutyStands (tables_after begin after) m c.take_turns.new.self) (sym (sequences_more begin history (Woken input)))
          (on_tables c.args.tables.now (tables_after begin after) (turned s input).after c.take_turns.new.self (in_force ∙ sym (tables_woken begin history input))
          (c.take_turns.ensures.stands (ordered c.args.now (ordered_at s input) s) (handled c begin history in_force stood)));
    }

pub returns-clause-stands : goal.returns-clause-stands
returns-clause-stands c = λ begin history in_force stood. woken c begin history in_force stood

pub returns-clause-items : goal.returns-clause-items
unfolding Stands sc_items
returns-clause-items c = λ begin history in_force stood.
    let input : Input = input_of c.args.now c.args.commands.now in
    let s = sequences_of begin history in
    let answers = command_items sc_answers sc_name (wakeup_of begin history input) (heard_at s input) in
    ap (λ (held : Held Out). held.items) (c.take_turns.ensures.items (ordered c.args.now (ordered_at s input) s) (handled c begin history in_force stood))
    ∙ items-adding c.handle_all.new.out (turned s input).items
    ∙ ap (λ (items : List Out). items ++ (turned s input).items)
    (ap (λ (held : Held Out). held.items) (c.handle_all.ensures.items (wakeup_of begin history input) (in_force, refl) (begins c begin history stood) stood.counts)
    ∙ items-adding c.args.out.now answers ∙ ap (λ (items : List Out). items ++ answers) c.requires.empty)

pub returns-clause-ready : goal.returns-clause-ready
returns-clause-ready c =
    let ready = c.requires.ready in
    let input : Input = input_of c.args.now c.args.commands.now in
    record {
      begin = ready.begin;
      history = ready.history ++ Woken input ∷ [];
      in_force = ready.in_force ∙ sym (tables_woken ready.begin ready.history input);
      stands = woken c ready.begin ready.history ready.in_force ready.stands;
    }
