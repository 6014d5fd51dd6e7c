-- What MM sends in a wakeup, and which operations it leaves.
use Rattle.std.specs.Prelude.{ℕ, List, filter_map}
use Rattle.bus_pipes.specs.declared.names.Out.{Out}
use Rattle.commands.specs.Verdicts.{orders_in, verdicts_on}
use Rattle.commands.specs.Inputs.{Input as CommandInput, Wakeup, heard_of}
use Rattle.commands.specs.Answering.{Answers, command_items}
use Rattle.commands.specs.declared.verdicts.Verdict.{Verdict}
use Rattle.memory_window.specs.declared.window.Window.{Window}
use Rattle.memory_window.specs.declared.operations.MemOp.{MemOp}
use Rattle.mm_core.specs.Messages.{mm_name}
use Rattle.mm_core.specs.Reading.{Seen, seen_in}
use Rattle.mm_core.specs.Instructions.{operation_of}
use Rattle.mm_core.specs.Verdicts.{mm_protocol}
use Rattle.mm_core.specs.Housekeeping.{housekeeping_of}
use Rattle.mm_core.specs.Answers.{replies_to}
use Rattle.mm_core.specs.declared.instructions.Instruction.{Instruction}

-- What MM reads in a wakeup.
abbrev pub Input : Type 0
Input = CommandInput Seen

-- The input of a wakeup at this time with these packets, this window, and the load files among these files.
abbrev pub input_of : ℕ → List (List ℕ) → Window → List (List ℕ) → Input
input_of now commands window files = record { time = now; commands = commands; seen = seen_in window files }

-- The verdicts on the packets of a wakeup, and on all packets of a history.
abbrev pub heard_at : Input → List (Verdict Instruction)
heard_at input = verdicts_on mm_protocol input.seen input.commands

unfoldable pub mm_heard : List Input → List (Verdict Instruction)
mm_heard history = heard_of mm_protocol (λ earlier input. input.seen) history

-- A wakeup of MM, whose history begins with nothing.
abbrev pub Turn : Type 0
Turn = Wakeup (Unit {0}) Input Input

abbrev pub turn_of : List Input → Input → Turn
turn_of history input = record { setup = tt; history = history; input = input }

-- What MM answers.
abbrev pub mm_answers : Answers Turn Instruction
mm_answers = record {
  time = λ turn. turn.input.time;
  earlier = λ turn. mm_heard turn.history;
  housekeeping = λ turn counts orders. housekeeping_of turn.input.time counts turn.input.seen.image;
  replies = λ turn orders instruction. replies_to turn.input.time turn.input.seen.image instruction;
}

-- What MM sends in a wakeup, by its history and its input.
unfoldable pub mm_items : List Input → Input → List Out
mm_items history input = command_items mm_answers mm_name (turn_of history input) (heard_at input)

-- The operations that these orders leave, in command order.
unfoldable pub operations_of : List (ℕ × List ℕ) → List Instruction → List MemOp
operations_of loads orders = filter_map (operation_of loads) orders

-- The operations that MM leaves in a wakeup.
unfoldable pub mm_operations : Input → List MemOp
mm_operations input = operations_of input.seen.loads (orders_in (heard_at input))
