-- A wakeup in which nothing is done.
use Rattle.std.proofs.Common.{◌≡◌, ℕ, Bool, true, false, not, ◌&&◌, List, [], ◌∷◌, ◌++◌, length, Option, Some, None, refl, sym, ap, subst, ◌∙◌, arith}
use Rattle.std.specs.Prelude.{is_some, ◌==◌}
use Rattle.histories.specs.Entries.Entry.{Woken}
use Rattle.commands.specs.Verdicts.{orders_in, verdicts_on}
use Rattle.commands.specs.Counting.{counts_of}
use Rattle.commands.specs.Answering.{command_items}
use Rattle.commands.specs.declared.verdicts.Verdict.{Verdict}
use Rattle.commands.proofs.Heard.{no_answers, verdicts_none, heard_idle}
use Rattle.bus_pipes.specs.declared.names.Out.{Out}
use Rattle.sc_tables.specs.Commands.{TimedCommand}
use Rattle.sc_sequences.specs.Messages.{sc_name}
use Rattle.sc_sequences.specs.Verdicts.{sc_protocol}
use Rattle.sc_sequences.specs.Turns.{Sequences, Done, nothing, next_place, turns}
use Rattle.sc_sequences.specs.Histories.{Input, ScEntry, Beginning, basis_of, basis_in, packets_in, heard_at, ordered, ordered_at, turned, sequences_of, tables_after}
use Rattle.sc_sequences.specs.Step.{sc_heard, sc_answers, wakeup_of, sc_items}
use Rattle.sc_sequences.specs.State.{DutyStands, Stands, is_idle_on}
use Rattle.sc_sequences.specs.declared.instructions.Instruction.{Instruction}
use Rattle.sc_sequences.specs.declared.state.Sc.{Sc}
use Rattle.sc_sequences.proofs.Takes.{turns_none, turns_idle}
use Rattle.sc_sequences.proofs.Waking.{sequences_more, unordered}
use Rattle.sc_sequences.proofs.Loaded.{tables_woken}

-- no packets, nothing heard and nothing ordered
none_heard : (s : Sequences) (input : Input) → input.commands ≡ [] → heard_at s input ≡ []
none_heard s input none = ap (verdicts_on sc_protocol (basis_of s input)) none ∙ verdicts_none sc_protocol (basis_of s input)

none_ordered : (s : Sequences) (input : Input) → input.commands ≡ [] → ordered_at s input ≡ []
unfolding orders_in
none_ordered s input none = ap (λ (heard : List (Verdict Instruction)). orders_in heard) (none_heard s input none)

-- and where none is due nothing is done
pub nothing_done : (s : Sequences) (input : Input) → input.commands ≡ [] → next_place input.time s.all ≡ None → turned s input ≡ nothing s
nothing_done s input none idle =
    ap (λ (orders : List Instruction). turns 8 input.time (ordered input.time orders s)) (none_ordered s input none)
    ∙ ap (turns 8 input.time) (unordered input.time s)
    ∙ turns_idle 8 0 input.time s (omega arith) (ap (λ (done : Done). next_place input.time done.after.all) (turns_none input.time s) ∙ idle)
    ∙ turns_none input.time s

module _ (begin : Beginning) (history : List ScEntry) (input : Input) (none : input.commands ≡ []) (idle : next_place input.time (sequences_of begin history).all ≡ None) where
  same_sequences : sequences_of begin (history ++ Woken input ∷ []) ≡ sequences_of begin history
  same_sequences = sequences_more begin history (Woken input) ∙ ap (λ (done : Done). done.after) (nothing_done (sequences_of begin history) input none idle)

  pub idle_stands : (sc : Sc) → Stands begin history sc → Stands begin (history ++ Woken input ∷ []) sc
  unfolding Stands sc_heard
  idle_stands sc stood = record {
    counts = stood.counts ∙ ap counts_of (sym (heard_idle sc_protocol (basis_in begin) packets_in history (Woken input) none));
    duty =
        subst (λ (s : Sequences). DutyStands (tables_after begin (history ++ Woken input ∷ [])) s sc.duty) (sym same_sequences)
        (subst (λ (tables : List (List TimedCommand)). DutyStands tables (sequences_of begin history) sc.duty) (sym (tables_woken begin history input)) stood.duty);
  }

  pub idle_items : sc_items begin history input ≡ []
  unfolding sc_items
  idle_items =
      let s = sequences_of begin history in
      ap (λ (heard : List (Verdict Instruction)). command_items sc_answers sc_name (wakeup_of begin history input) heard ++ (turned s input).items) (none_heard s input none)
      ∙ ap (λ (items : List Out). items ++ (turned s input).items) (no_answers sc_answers sc_name (wakeup_of begin history input))
      ∙ ap (λ (done : Done). done.items) (nothing_done s input none idle)

-- what is told of it
not_back : (a b : Bool) → a ≡ not b → b ≡ not a
not_back a true is = sym (ap not is)
not_back a false is = sym (ap not is)

pub idle_is : (begin : Beginning) (history : List ScEntry) (commands : List (List ℕ)) (now : ℕ) (o : Option ℕ) (b : Bool) → (length commands == 0) ≡ true → o ≡ next_place now (sequences_of begin history).all → is_some o ≡ not b
    → b ≡ is_idle_on begin history commands now
unfolding is_idle_on
idle_is begin history commands now o b none next told =
    not_back (is_some o) b told ∙ ap (λ (p : Option ℕ). not (is_some p)) next ∙ ap (λ (t : Bool). t && not (is_some (next_place now (sequences_of begin history).all))) (sym none)

pub not_idle : (begin : Beginning) (history : List ScEntry) (commands : List (List ℕ)) (now : ℕ) → (length commands == 0) ≡ false → false ≡ is_idle_on begin history commands now
unfolding is_idle_on
not_idle begin history commands now some = sym (ap (λ (b : Bool). b && not (is_some (next_place now (sequences_of begin history).all))) some)

pub none_there : (o : Option ℕ) (b : Bool) → is_some o ≡ not b → b ≡ true → o ≡ None
none_there None b told holds = refl
none_there (Some place) b told holds = absurd (apart b told holds)
  where
    apart : (t : Bool) → true ≡ not t → t ≡ true → ⊥
    apart true is here = cc
    apart false is here = cc
