-- What CS sends in a wakeup.
use Rattle.std.specs.Prelude.{List, ◌++◌, map}
use Rattle.bus_pipes.specs.declared.names.Out.{Out}
use Rattle.commands.specs.Inputs.{Wakeup, heard_along}
use Rattle.commands.specs.Answering.{Answers, command_items}
use Rattle.commands.specs.declared.verdicts.Verdict.{Verdict}
use Rattle.cs_slices.specs.Messages.{cs_name}
use Rattle.cs_slices.specs.Tables.{TablePair}
use Rattle.cs_slices.specs.Verdicts.{cs_protocol}
use Rattle.cs_slices.specs.Happenings.{Happening}
use Rattle.cs_slices.specs.Happenings.Happening.{Ordered}
use Rattle.cs_slices.specs.Wakeups.{Input, heard_at}
use Rattle.cs_slices.specs.Histories.{CsEntry, tables_after, packets_in, before_slice, happened_of, slice_at}
use Rattle.cs_slices.specs.Housekeeping.{housekeeping_at}
use Rattle.cs_slices.specs.Answers.{replies_to, slice_items}
use Rattle.cs_slices.specs.declared.instructions.Instruction.{Instruction}

-- The verdicts on all packets of a history that began with these tables, each by those in force.
unfoldable pub cs_heard : TablePair → List CsEntry → List (Verdict Instruction)
cs_heard tables history = heard_along cs_protocol (λ earlier entry. tables_after tables earlier) packets_in history

-- A wakeup of CS, whose history began with these tables.
abbrev pub Turn : Type 0
Turn = Wakeup TablePair CsEntry Input

abbrev pub turn_of : TablePair → List CsEntry → Input → Turn
turn_of tables history input = record { setup = tables; history = history; input = input }

-- What happened before a place in a wakeup, by what was ordered in it so far.
abbrev pub happened_in : Turn → List Instruction → List Happening
happened_in turn orders = happened_of turn.setup turn.history ++ map Ordered orders

-- What CS answers.
abbrev pub cs_answers : Answers Turn Instruction
cs_answers = record {
  time = λ turn. turn.input.time;
  earlier = λ turn. cs_heard turn.setup turn.history;
  housekeeping = λ turn counts orders. housekeeping_at turn.input.time counts (happened_in turn orders);
  replies = λ turn orders instruction. replies_to turn.input.time (happened_in turn orders) instruction;
}

-- What CS sends in a wakeup, by the tables with which its history began, the history and its input: the items of its commands, and then those
-- of its slice.
unfoldable pub cs_items : TablePair → List CsEntry → Input → List Out
cs_items tables history input =
    command_items cs_answers cs_name (turn_of tables history input) (heard_at (tables_after tables history) input)
    ++ slice_items input.time (before_slice (tables_after tables history) (happened_of tables history) input) (slice_at tables history input)
