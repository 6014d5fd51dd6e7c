use Rattle.std.proofs.Common.{List, sym, subst, ◌∙◌}
use Rattle.std.specs.List.{All}
use Rattle.memory_window.specs.Access.{Admitted}
use Rattle.memory_window.specs.Operations.{IsBacked}
use Rattle.memory_window.specs.declared.operations.MemOp.{MemOp}
use Rattle.table_files.specs.Files.{loads_of}
use Rattle.frame_exec.proofs.memory.Memory.land.Goals as goal

pub land_banks_on-requires-clause-admitted : goal.land_banks_on-requires-clause-admitted
land_banks_on-requires-clause-admitted g c = λ _ _. subst (λ (ops : List MemOp). All (Admitted c.args.self.now.ram) ops) (sym (c.items.ensures.items ∙ c.deref.ensures)) c.requires.can_land.admitted

pub land_banks_on-requires-clause-backed : goal.land_banks_on-requires-clause-backed
land_banks_on-requires-clause-backed g c = λ _ _. subst (λ (ops : List MemOp). All (IsBacked (loads_of c.args.files.now)) ops) (sym (c.items.ensures.items ∙ c.deref.ensures)) c.requires.can_land.backed
