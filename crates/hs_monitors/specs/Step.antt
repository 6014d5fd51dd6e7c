-- What Health and Safety sends in a wakeup.
use Rattle.std.specs.Prelude.{ℕ, List, [], ◌++◌}
use Rattle.bus_pipes.specs.declared.names.Out.{Out}
use Rattle.commands.specs.Inputs.{Wakeup, heard_along}
use Rattle.commands.specs.Answering.{Answers, command_items}
use Rattle.commands.specs.declared.verdicts.Verdict.{Verdict}
use Rattle.hs_actions.specs.Messages.{hs_name}
use Rattle.hs_actions.specs.Answers.{items_of}
use Rattle.hs_actions.specs.Outcomes.{outcomes_in, made_of, max_of}
use Rattle.hs_monitors.specs.Verdicts.{hs_protocol}
use Rattle.hs_monitors.specs.Histories.{Input, HsEntry, Setup, packets_in}
use Rattle.hs_monitors.specs.Orders.{heard_at, ordered_at}
use Rattle.hs_monitors.specs.Attempts.{by_monitors, past_of, past_in}
use Rattle.hs_monitors.specs.Housekeeping.{housekeeping_at}
use Rattle.hs_monitors.specs.declared.instructions.Instruction.{Instruction}

-- The verdicts on all packets of a history.
unfoldable pub hs_heard : List HsEntry → List (Verdict Instruction)
hs_heard entries = heard_along hs_protocol (λ earlier entry. tt) packets_in entries

-- A wakeup of Health and Safety.
abbrev pub Turn : Type 0
Turn = Wakeup Setup HsEntry Input

abbrev pub turn_of : Setup → List HsEntry → Input → Turn
turn_of setup history input = record { setup = setup; history = history; input = input }

-- What Health and Safety answers: no command has a packet of its own.
abbrev pub hs_answers : Answers Turn Instruction
hs_answers = record {
  time = λ turn. turn.input.time;
  earlier = λ turn. hs_heard turn.history;
  housekeeping = λ turn counts orders. housekeeping_at turn.setup turn.history turn.input counts orders;
  replies = λ turn orders instruction. [];
}

-- What Health and Safety sends in a wakeup: the items of its commands, and then those of what its monitors attempt.
unfoldable pub hs_items : Setup → List HsEntry → Input → List Out
hs_items setup history input =
    command_items hs_answers hs_name (turn_of setup history input) (heard_at input)
    ++ items_of input.time setup.tables.acts (past_in setup history (ordered_at input)) (by_monitors setup history input)

-- The resets made behind a history, and their maximum: a processor reset begins the next history with them.
unfoldable pub resets_made : Setup → List HsEntry → ℕ
resets_made setup history = made_of (past_of setup history).begins (outcomes_in setup.tables.acts (past_of setup history))

unfoldable pub resets_maximum : Setup → List HsEntry → ℕ
resets_maximum setup history = max_of (past_of setup history).begins (outcomes_in setup.tables.acts (past_of setup history))
