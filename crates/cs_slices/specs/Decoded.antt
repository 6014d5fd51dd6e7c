-- The instructions of Checksum by words of their own, for what speaks of them from outside.
use Rattle.std.specs.Prelude.{ℕ, Bool}
use Rattle.cs_slices.specs.declared.instructions.Instruction.{Instruction}
use Rattle.cs_slices.specs.declared.instructions.Instruction.TheVariants.{Plain, Whole, Table, Entry, Report}

-- the instruction that asks for nothing of what is read
abbrev pub to_nothing : Instruction
to_nothing = Plain

-- the instruction that switches Checksum on or off
abbrev pub to_whole : Bool → Instruction
to_whole a = Whole a

-- the instruction that switches a table on or off
abbrev pub to_table : ℕ → Bool → Instruction
to_table a b = Table a b

-- the instruction that switches of a table an entry on or off
abbrev pub to_entry : ℕ → ℕ → Bool → Instruction
to_entry a b c = Entry a b c

-- the instruction that reports the baseline of a table's entry
abbrev pub to_report : ℕ → ℕ → Instruction
to_report a b = Report a b
