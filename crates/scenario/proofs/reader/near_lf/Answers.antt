use Rattle.std.proofs.Common.{eqb, sym, ap, ◌∙◌, take, arith, w8}
use lib.Count.{count_trailing_zeros}
use Rattle.std.proofs.lemmas.Simd.{length-chunk, bitmask_splat, leading_from_mask_l, trailing_mask_l}
use Rattle.scenario.proofs.reader.near_lf.Goals as goal

pub returns-then-hits-eq0 : goal.returns-then-hits-eq0
returns-then-hits-eq0 c =
    let near = take 64 c.args.bytes.now in
    let long = length-chunk 0 64 c.args.bytes.now c.requires in
    let hits = bitmask_splat w8 eqb near 64 10 long (omega arith) in
    sym (leading_from_mask_l (λ x. eqb x 10) near (sym hits ∙ c.if-hits-eq0.true) ∙ long)

pub returns-else-hits-eq0 : goal.returns-else-hits-eq0
returns-else-hits-eq0 c =
    let near = take 64 c.args.bytes.now in
    let long = length-chunk 0 64 c.args.bytes.now c.requires in
    let hits = bitmask_splat w8 eqb near 64 10 long (omega arith) in
    ap (count_trailing_zeros 64) hits ∙ trailing_mask_l (λ x. eqb x 10) 64 near (omega arith) (omega arith)
