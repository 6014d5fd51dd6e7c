-- The instructions of Memory Manager by words of their own, for what speaks of them from outside.
use Rattle.std.specs.Prelude.{ℕ, Bool, List}
use Rattle.mm_core.specs.declared.instructions.Instruction.{Instruction}
use Rattle.mm_core.specs.declared.instructions.Instruction.TheVariants.{Plain, Peek, Poke, Load, LoadFile, Fill, Protect, Dump}

-- the instruction that asks for nothing of memory
abbrev pub to_nothing : Instruction
to_nothing = Plain

-- the instruction that reads so many bits at an address
abbrev pub to_peek : ℕ → ℕ → Instruction
to_peek a b = Peek a b

-- the instruction that writes so many bits at an address
abbrev pub to_poke : ℕ → ℕ → ℕ → Instruction
to_poke a b c = Poke a b c

-- the instruction that writes bytes at an address, with this check
abbrev pub to_load : ℕ → ℕ → List ℕ → Instruction
to_load a b c = Load a b c

-- the instruction that writes the bytes of the load file of a number
abbrev pub to_load_file : ℕ → Instruction
to_load_file a = LoadFile a

-- the instruction that writes at an address, so often, a byte
abbrev pub to_fill : ℕ → ℕ → ℕ → Instruction
to_fill a b c = Fill a b c

-- the instruction that sets the protection of a region or takes it away
abbrev pub to_protect : ℕ → Bool → Instruction
to_protect a b = Protect a b

-- the instruction that shows at an address so many bytes
abbrev pub to_dump : ℕ → ℕ → Instruction
to_dump a b = Dump a b
