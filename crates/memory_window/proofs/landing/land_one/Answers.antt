use Rattle.std.proofs.Common.{◌≡◌, ◌+◌, ◌-◌, min, length, drop, length-take, length-drop, ap, ◌∙◌, arith}
use Rattle.table_files.specs.Files.{loads_of}
use Rattle.memory_window.specs.Operations.{op_at, op_len, op_byte}
use Rattle.memory_window.proofs.Landed.{one-landed}
use Rattle.memory_window.proofs.landing.land_one.Goals as goal

pub returns-then-from-to : goal.returns-then-from-to
returns-then-from-to c =
    let begins : c.min-from.result ≡ min (length c.args.bank.now) (op_at c.args.op.now - c.args.at) = omega arith in
    let ends : c.min-to.result ≡ min (length c.args.bank.now) (op_at c.args.op.now + op_len c.args.op.now - c.args.at) = omega arith in
    one-landed (loads_of c.args.files.now) c.args.op.now c.args.at c.min-from.result c.min-to.result c.args.bank.now begins ends c.write.new.part (omega arith) (omega arith)
    (λ k lt.
    let size = length-take (c.min-to.result - c.min-from.result) (drop c.min-from.result c.args.bank.now) in
    let rest = length-drop c.min-from.result c.args.bank.now in
    c.write.ensures k (omega (arith, size, rest, lt)) ∙ ap (op_byte (loads_of c.args.files.now) c.args.op.now) (omega arith))
