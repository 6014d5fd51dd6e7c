use Rattle.std.proofs.Common.{◌∙◌, ap}
use Rattle.std.specs.Prelude.{option_map}
use Rattle.ground_files.specs.Workspaces.{input_taken}
use Rattle.ground_differences.proofs.DifferenceLemmas.{compared_by}
use Rattle.ground_differences.proofs.comparing.compare_logs.Goals as goal

pub returns : goal.returns
returns g c = λ before told.
    let pair = c.args.pair.now in
    let taken = c.open_given.ensures.held ∙ ap (option_map (input_taken pair.one.now)) told in
    let one = c.in-Ok.ensures.bytes before told in
    let other = c.in-Ok-open_given.ensures.bytes (input_taken pair.one.now before) taken in
    compared_by pair c.write_differences.result before _ one.0 other.0 one.1 other.1
    (c.write_differences.ensures.told _ (c.open_given-2.ensures.held ∙ ap (option_map (input_taken pair.other.now)) taken))
    (c.write_differences.ensures.found one.0 other.0 one.2 other.2)

pub returns-then-refuse : goal.returns-then-refuse
returns-then-refuse g c = λ before is. record { unfit = c.refuse.ensures c.if-refuse.true before is; same = is }
