use Rattle.std.proofs.Common.{take, arith}
use Rattle.std.proofs.lemmas.Simd.{take_more_put_chunk, length-chunk, length-put_chunk}
use Rattle.scenario.proofs.line_buffer.place_near.Goals as goal

pub returns-clause-near : goal.returns-clause-near
returns-clause-near c =
    let long = length-chunk 0 64 c.args.bytes.now c.requires.bytes in
    take_more_put_chunk 0 c.args.places.now (take 64 c.args.bytes.now) 64 (omega (arith, long)) c.requires.places

pub returns-clause-size : goal.returns-clause-size
returns-clause-size c = length-put_chunk 0 c.args.places.now (take 64 c.args.bytes.now)
