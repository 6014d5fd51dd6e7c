use Rattle.std.proofs.Common.{◌≡◌, ◌∙◌, ℕ, List, None, true, ap, sym}
use Rattle.commands.proofs.Heard.{no_packets}
use Rattle.sc_sequences.specs.Turns.{next_place}
use Rattle.sc_sequences.specs.Histories.{ScEntry, Beginning, sequences_of, tables_after}
use Rattle.sc_sequences.specs.State.{Stands}
use Rattle.sc_sequences.proofs.Takes.{place_is}
use Rattle.sc_sequences.proofs.Idling.{idle_stands, idle_items, idle_is, not_idle, none_there}
use Rattle.sc_sequences.proofs.state.Sc.is_idle.Goals as goal
use Rattle.sc_sequences.proofs.state.Sc.is_idle.Goals.{After-is_none}

pub returns-then-not-is_empty-clause-exact : goal.returns-then-not-is_empty-clause-exact
returns-then-not-is_empty-clause-exact c = λ begin history stood. not_idle begin history c.args.commands.now c.args.now (sym c.is_empty.ensures ∙ c.if-not-is_empty.true)

-- the place that is due
due_is : (c : After-is_none) (begin : Beginning) (history : List ScEntry) → Stands begin history c.args.self.now → c.due.result ≡ next_place c.args.now (sequences_of begin history).all
unfolding Stands
due_is c begin history stood = c.due.ensures.place ∙ place_is (tables_after begin history) (sequences_of begin history).all c.args.self.now.duty.cursors c.args.now stood.duty.cursors

pub returns-clause-exact : goal.returns-clause-exact
returns-clause-exact c = λ begin history stood.
    idle_is begin history c.args.commands.now c.args.now c.due.result c.is_none.result (sym c.is_empty.ensures ∙ c.if-not-is_empty.false) (due_is c begin history stood) c.is_none.ensures

-- there is none
none_due : (c : After-is_none) (begin : Beginning) (history : List ScEntry) (time : ℕ) → c.is_none.result ≡ true → time ≡ c.args.now → Stands begin history c.args.self.now → next_place time (sequences_of begin history).all ≡ None
none_due c begin history time idle timed stood =
    ap (λ (t : ℕ). next_place t (sequences_of begin history).all) timed ∙ sym (due_is c begin history stood) ∙ none_there c.due.result c.is_none.result c.is_none.ensures idle

pub returns-clause-stands : goal.returns-clause-stands
returns-clause-stands c = λ begin history i idle commands timed stood.
    idle_stands begin history i (commands ∙ no_packets c.args.commands.now (sym c.is_empty.ensures ∙ c.if-not-is_empty.false)) (none_due c begin history i.time idle timed stood) c.args.self.now stood

pub returns-clause-items : goal.returns-clause-items
returns-clause-items c = λ begin history i idle commands timed stood.
    idle_items begin history i (commands ∙ no_packets c.args.commands.now (sym c.is_empty.ensures ∙ c.if-not-is_empty.false)) (none_due c begin history i.time idle timed stood)
