-- What LC sends in a wakeup.
use Rattle.std.specs.Prelude.{List, [], ◌++◌}
use Rattle.std.specs.List.{flat_map}
use Rattle.bus_pipes.specs.declared.names.Out.{Out}
use Rattle.commands.specs.Inputs.{Wakeup, heard_of}
use Rattle.commands.specs.Answering.{Answers, command_items}
use Rattle.commands.specs.declared.verdicts.Verdict.{Verdict}
use Rattle.lc_watch.specs.Messages.{lc_name}
use Rattle.lc_watch.specs.Verdicts.{lc_protocol}
use Rattle.lc_watch.specs.Histories.{Input, Setup, heard_at}
use Rattle.lc_watch.specs.Firing.{fired_at}
use Rattle.lc_watch.specs.Answers.{point_items}
use Rattle.lc_watch.specs.Housekeeping.{housekeeping_at}
use Rattle.lc_watch.specs.declared.instructions.Instruction.{Instruction}

-- The verdicts on all packets of a history.
unfoldable pub lc_heard : Setup → List Input → List (Verdict Instruction)
lc_heard setup history = heard_of lc_protocol (λ earlier input. setup.actions) history

-- A wakeup of LC.
abbrev pub Turn : Type 0
Turn = Wakeup Setup Input Input

abbrev pub turn_of : Setup → List Input → Input → Turn
turn_of setup history input = record { setup = setup; history = history; input = input }

-- What LC answers: no command has a packet of its own.
abbrev pub lc_answers : Answers Turn Instruction
lc_answers = record {
  time = λ turn. turn.input.time;
  earlier = λ turn. lc_heard turn.setup turn.history;
  housekeeping = λ turn counts orders. housekeeping_at turn.setup turn.history turn.input counts orders;
  replies = λ turn orders instruction. [];
}

-- What LC sends in a wakeup, by its tables, its history and its input: the items of its commands, and then those of the actionpoints that
-- fire, in table order.
unfoldable pub lc_items : Setup → List Input → Input → List Out
lc_items setup history input =
    command_items lc_answers lc_name (turn_of setup history input) (heard_at setup input)
    ++ flat_map (point_items input.time setup.actions) (fired_at setup history input)
