use Rattle.std.proofs.Common.{◌≡◌, ◌∙◌, ◌++◌, [], List, ℕ, ap, sym}
use Rattle.std.specs.List.{cons_option}
use Rattle.table_files.specs.Files.{loads_of}
use Rattle.memory_window.specs.declared.operations.MemOp.{MemOp}
use Rattle.mm_core.specs.Reading.{Seen, seen_in}
use Rattle.mm_core.specs.Instructions.{operation_of}
use Rattle.mm_core.specs.Step.{operations_of}
use Rattle.mm_core.proofs.Landing.{passes_sized, operations_more, left_lands}
use Rattle.mm_core.proofs.step.DutyCommandedReads.obey.Goals as goal

pub reply-requires-clause-sized : goal.reply-requires-clause-sized
reply-requires-clause-sized c = passes_sized (seen_in c.args.reads.window c.args.reads.files.now) c.args.instruction.now c.requires.can

pub leave_operation-requires-clause-sized : goal.leave_operation-requires-clause-sized
leave_operation-requires-clause-sized c = passes_sized (seen_in c.args.reads.window c.args.reads.files.now) c.args.instruction.now c.requires.can

pub returns-clause-stands : goal.returns-clause-stands
returns-clause-stands c = λ turn orders belongs stood.
    let loads : loads_of c.args.reads.files.now ≡ turn.input.seen.loads = sym (ap (λ (s : Seen). s.loads) belongs.0) in
    c.leave_operation.ensures
    ∙ ap (λ (ops : List MemOp). ops ++ cons_option (operation_of (loads_of c.args.reads.files.now) c.args.instruction.now) []) stood
    ∙ ap (λ (ls : List (ℕ × List ℕ)). operations_of turn.input.seen.loads orders ++ cons_option (operation_of ls c.args.instruction.now) []) loads
    ∙ sym (operations_more turn.input.seen.loads orders c.args.instruction.now)

pub returns-clause-safe : goal.returns-clause-safe
returns-clause-safe c = λ n few safe.
    left_lands (seen_in c.args.reads.window c.args.reads.files.now) n c.args.left.now c.leave_operation.new.ops c.args.instruction.now safe c.requires.can c.leave_operation.ensures
