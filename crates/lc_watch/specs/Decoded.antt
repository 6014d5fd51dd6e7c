-- The instructions of Limit Checker by words of their own, for what speaks of them from outside.
use Rattle.std.specs.Prelude.{ℕ, Bool}
use Rattle.lc_watch.specs.declared.instructions.Instruction.{Instruction}
use Rattle.lc_watch.specs.declared.instructions.Instruction.TheVariants.{Plain, Switch}

-- the instruction that asks for nothing of the actionpoints
abbrev pub to_nothing : Instruction
to_nothing = Plain

-- the instruction that sets an actionpoint active or passive
abbrev pub to_switch : ℕ → Bool → Instruction
to_switch a b = Switch a b
