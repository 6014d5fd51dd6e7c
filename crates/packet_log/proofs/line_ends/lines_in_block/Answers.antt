use Rattle.std.proofs.Common.{◌≡◌, ◌≤◌, eqb, length, take, ap, ◌∙◌, arith, w8}
use Rattle.std.specs.Prelude.{◌==◌}
use Rattle.std.specs.Int.RustNames.{count_ones}
use Rattle.std.proofs.lemmas.List.{take_all, length-take-le}
use Rattle.std.proofs.lemmas.List.Sums.{count_by-le-length}
use Rattle.std.proofs.lemmas.Simd.{bitmask_splat, ones-mask_l}
use Rattle.fsw_outside.specs.Tally.{line_ends}
use Rattle.packet_log.proofs.line_ends.lines_in_block.Goals as goal

pub returns-clause-value : goal.returns-clause-value
returns-clause-value c =
    let block = c.args.block.now in
    let long : length (take 32 block) ≡ 32 = length-take-le 32 block (omega (arith, c.requires)) in
    ap count_ones (bitmask_splat w8 eqb (take 32 block) 32 10 long (omega arith))
    ∙ ones-mask_l (λ b. b == 10) (take 32 block)
    ∙ ap line_ends (take_all 32 block (omega (arith, c.requires)))

pub returns-clause-few : goal.returns-clause-few
returns-clause-few c =
    let is = returns-clause-value c in
    let most : line_ends c.args.block.now ≤ length c.args.block.now = count_by-le-length (λ b. b == 10) c.args.block.now in
    omega (arith, is, most, c.requires)
