-- What Stored Command sends in a wakeup.
use Rattle.std.specs.Prelude.{List, [], ◌++◌}
use Rattle.bus_pipes.specs.declared.names.Out.{Out}
use Rattle.commands.specs.Inputs.{Wakeup, heard_along}
use Rattle.commands.specs.Answering.{Answers, command_items}
use Rattle.commands.specs.declared.verdicts.Verdict.{Verdict}
use Rattle.sc_sequences.specs.Messages.{sc_name}
use Rattle.sc_sequences.specs.Verdicts.{sc_protocol}
use Rattle.sc_sequences.specs.Histories.{Input, ScEntry, Beginning, sequences_of, ordered, heard_at, turned, packets_in, basis_in}
use Rattle.sc_sequences.specs.Housekeeping.{report_of, housekeeping_of}
use Rattle.sc_sequences.specs.declared.instructions.Instruction.{Instruction}

-- The verdicts on all packets of a history.
unfoldable pub sc_heard : Beginning → List ScEntry → List (Verdict Instruction)
sc_heard begin history = heard_along sc_protocol (basis_in begin) packets_in history

-- A wakeup of Stored Command.
abbrev pub Turn : Type 0
Turn = Wakeup Beginning ScEntry Input

abbrev pub wakeup_of : Beginning → List ScEntry → Input → Turn
wakeup_of begin history input = record { setup = begin; history = history; input = input }

-- What Stored Command answers: no command has a packet of its own.
abbrev pub sc_answers : Answers Turn Instruction
sc_answers = record {
  time = λ wakeup. wakeup.input.time;
  earlier = λ wakeup. sc_heard wakeup.setup wakeup.history;
  housekeeping = λ wakeup counts orders. housekeeping_of wakeup.input.time counts (report_of (ordered wakeup.input.time orders (sequences_of wakeup.setup wakeup.history)));
  replies = λ wakeup orders instruction. [];
}

-- What Stored Command sends in a wakeup: the items of its commands, and then those of its turns.
unfoldable pub sc_items : Beginning → List ScEntry → Input → List Out
sc_items begin history input =
    command_items sc_answers sc_name (wakeup_of begin history input) (heard_at (sequences_of begin history) input)
    ++ (turned (sequences_of begin history) input).items
