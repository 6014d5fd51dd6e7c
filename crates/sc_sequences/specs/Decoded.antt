-- The instructions of Stored Command by words of their own, for what speaks of them from outside.
use Rattle.std.specs.Prelude.{ℕ}
use Rattle.sc_sequences.specs.declared.instructions.Instruction.{Instruction}
use Rattle.sc_sequences.specs.declared.instructions.Instruction.TheVariants.{Plain, StartAts, StopAts, StartRts, StopRts, DisableRts, EnableRts, SwitchAts, JumpAts}

-- the instruction that asks for nothing of the sequences
abbrev pub to_nothing : Instruction
to_nothing = Plain

-- the instruction that starts an absolute sequence
abbrev pub to_start_ats : ℕ → Instruction
to_start_ats a = StartAts a

-- the instruction that stops the absolute sequence
abbrev pub to_stop_ats : Instruction
to_stop_ats = StopAts

-- the instruction that starts a relative sequence
abbrev pub to_start_rts : ℕ → Instruction
to_start_rts a = StartRts a

-- the instruction that stops a relative sequence
abbrev pub to_stop_rts : ℕ → Instruction
to_stop_rts a = StopRts a

-- the instruction that disables a relative sequence
abbrev pub to_disable_rts : ℕ → Instruction
to_disable_rts a = DisableRts a

-- the instruction that enables a relative sequence
abbrev pub to_enable_rts : ℕ → Instruction
to_enable_rts a = EnableRts a

-- the instruction that switches to the other absolute sequence
abbrev pub to_switch_ats : Instruction
to_switch_ats = SwitchAts

-- the instruction that jumps to a time in the absolute sequence
abbrev pub to_jump_ats : ℕ → Instruction
to_jump_ats a = JumpAts a
