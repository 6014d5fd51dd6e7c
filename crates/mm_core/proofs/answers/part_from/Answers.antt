use Rattle.std.proofs.Common.{◌≡◌, ℕ, length, take, drop, length-take, ap, ◌∙◌, arith}
use Rattle.mm_core.proofs.answers.part_from.Goals as goal

pub returns-clause-few : goal.returns-clause-few
returns-clause-few c =
    let same : c.front.result.now ≡ take 128 (drop c.args.from c.args.bytes.now) = c.front.ensures ∙ ap (take 128) c.behind.ensures in
    let size = length-take 128 (drop c.args.from c.args.bytes.now) in
    let long = ap (length {A = ℕ}) same in
    omega (arith, size, long)
