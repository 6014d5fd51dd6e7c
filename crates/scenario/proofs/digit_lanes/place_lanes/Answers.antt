use Rattle.std.proofs.Common.{◌++◌, ℕ, List, take, drop, ap, ◌∙◌, arith}
use Rattle.std.proofs.lemmas.List.{drop-drop}
use Rattle.std.proofs.lemmas.Simd.{put_chunk_is}
use Rattle.scenario.proofs.digit_lanes.place_lanes.Goals as goal

pub returns : goal.returns
returns c =
    let at : ℕ = c.args.at in
    let places = c.args.places.now in
    put_chunk_is at places c.args.bytes (omega (arith, c.requires.lanes, c.requires.room))
    ∙ ap (λ (n : ℕ). take at places ++ (c.args.bytes ++ drop n (drop at places))) c.requires.lanes
    ∙ ap (λ (xs : List ℕ). take at places ++ (c.args.bytes ++ xs)) (drop-drop 8 at places)
