use Rattle.std.proofs.Common.{arith, ◌≡◌, true, string_bytes}
use Rattle.std.specs.Prelude.{bytes_eq}
use Rattle.std.proofs.lemmas.Grind.{common_steps}
use Rattle.fsw_outside.proofs.Shelves.{place_found}
use Rattle.fsw_outside.proofs.mem_shelf.file_place.Goals as goal

pub returns-then-eq : goal.returns-then-eq
returns-then-eq c =
    let file = c.index-files-place in
    let same : bytes_eq (string_bytes file.result.name) c.args.name.now ≡ true = grind (arith, common_steps) in
    place_found c.args.files.now c.args.name.now c.loop-place.place file.result c.loop-place-test.true file.is same c.loop-place.invariant
