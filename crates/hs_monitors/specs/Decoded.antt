-- The instructions of Health and Safety by words of their own, for what speaks of them from outside.
use Rattle.std.specs.Prelude.{ℕ, Bool}
use Rattle.hs_monitors.specs.declared.instructions.Instruction.{Instruction}
use Rattle.hs_monitors.specs.declared.instructions.Instruction.TheVariants.{Plain, Monitor, Listen, Clear, Limit}

-- the instruction that asks for nothing of the monitors
abbrev pub to_nothing : Instruction
to_nothing = Plain

-- the instruction that switches application monitoring on or off
abbrev pub to_monitor : Bool → Instruction
to_monitor a = Monitor a

-- the instruction that switches event monitoring on or off
abbrev pub to_listen : Bool → Instruction
to_listen a = Listen a

-- the instruction that sets the resets made to 0
abbrev pub to_clear : Instruction
to_clear = Clear

-- the instruction that sets the maximum of resets
abbrev pub to_limit : ℕ → Instruction
to_limit a = Limit a
