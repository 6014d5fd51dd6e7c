-- What CS reads in a wakeup, and what is ordered in it.
use Rattle.std.specs.Prelude.{ℕ, List}
use Rattle.commands.specs.Verdicts.{orders_in, verdicts_on}
use Rattle.commands.specs.Inputs.{Input as CommandInput}
use Rattle.commands.specs.declared.verdicts.Verdict.{Verdict}
use Rattle.memory_window.specs.Memory.{Memory}
use Rattle.memory_window.specs.Window.{seen}
use Rattle.memory_window.specs.declared.window.Window.{Window}
use Rattle.cs_slices.specs.Tables.{TablePair}
use Rattle.cs_slices.specs.Verdicts.{cs_protocol}
use Rattle.cs_slices.specs.declared.instructions.Instruction.{Instruction}

-- What CS reads in a wakeup: beside its packets it sees the frame's image of memory.
abbrev pub Input : Type 0
Input = CommandInput Memory

-- The input of a wakeup at this time with these packets and this window.
abbrev pub input_of : ℕ → List (List ℕ) → Window → Input
input_of now commands window = record { time = now; commands = commands; seen = seen window }

-- The verdicts on the packets of a wakeup, and what was ordered in it, by the tables in force.
abbrev pub heard_at : TablePair → Input → List (Verdict Instruction)
heard_at tables input = verdicts_on cs_protocol tables input.commands

abbrev pub ordered_at : TablePair → Input → List Instruction
ordered_at tables input = orders_in (heard_at tables input)
