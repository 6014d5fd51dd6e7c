use Rattle.std.proofs.Common.{◌++◌, ◌≡◌, ℕ, length, take, drop, ap, ◌∙◌, arith}
use Rattle.std.proofs.lemmas.Simd.{put_chunk_is, length-chunk}
use Rattle.packet_forms.proofs.pieces.place_few.Goals as goal

pub returns : goal.returns
returns c =
    let bytes = c.args.bytes.now in
    let lanes = take 64 c.args.others.now in
    let long : length lanes ≡ 64 = length-chunk 0 64 c.args.others.now c.requires.others in
    put_chunk_is 0 bytes lanes (omega (arith, long, c.requires.bytes)) ∙ ap (λ (n : ℕ). lanes ++ drop n bytes) long
