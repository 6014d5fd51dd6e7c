-- The instructions of Memory Dwell by words of their own, for what speaks of them from outside.
use Rattle.std.specs.Prelude.{ℕ}
use Rattle.md_dwell.specs.declared.instructions.Instruction.{Instruction}
use Rattle.md_dwell.specs.declared.instructions.Instruction.TheVariants.{Plain, Start, Stop, Jam}

-- the instruction that asks for nothing of the tables
abbrev pub to_nothing : Instruction
to_nothing = Plain

-- the instruction that starts the tables of a mask
abbrev pub to_start : ℕ → Instruction
to_start a = Start a

-- the instruction that stops the tables of a mask
abbrev pub to_stop : ℕ → Instruction
to_stop a = Stop a

-- the instruction that writes of a table an entry: length, delay and address
abbrev pub to_jam : ℕ → ℕ → ℕ → ℕ → ℕ → Instruction
to_jam table number length delay address = Jam table number (record { len = length; delay = delay; at = address })
