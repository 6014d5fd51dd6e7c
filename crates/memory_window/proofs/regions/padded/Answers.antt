use Rattle.std.proofs.Common.{List, ◌++◌, length, drop, replicate, ap, ◌∙◌}
use Rattle.std.proofs.lemmas.List.{drop-replicate}
use Rattle.memory_window.specs.declared.regions.Region.{Region}
use Rattle.memory_window.specs.Regions.{blank}
use Rattle.memory_window.proofs.regions.padded.Goals as goal

pub returns : goal.returns
returns c =
    let n = length c.args.regions.now in
    ap (λ (xs : List Region). xs ++ drop n (replicate 8 blank)) c.copy_from_slice.ensures.after
    ∙ ap (λ (xs : List Region). c.args.regions.now ++ xs) (drop-replicate n 8 blank)
