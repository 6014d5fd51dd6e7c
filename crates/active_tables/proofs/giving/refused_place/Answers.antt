use Rattle.std.proofs.Common.{◌+◌, ◌<◌, length, sym, ◌∙◌, arith}
use Rattle.table_files.specs.Files.{file_at}
use Rattle.active_tables.specs.Tables.{refused_in}
use Rattle.active_tables.proofs.Files.{said_on, said_here, said_none, region_is}
use Rattle.active_tables.proofs.giving.refused_place.Goals as goal

pub returns-in-Some : goal.returns-in-Some
returns-in-Some c =
    let file = file_at c.args.files.now (c.files.i + 1) in
    let within : c.files.i < length c.args.files.now = omega (arith, c.files-test.true, c.len-i-end.ensures.len) in
    region_is c.args.map.now c.args.files.now _
    (c.files.invariant ∙ said_here (refused_in c.args.map.now) c.args.files.now c.files.i c.in-Some.entry within (sym (c.refused_in.ensures file c.get.ensures) ∙ c.in-Some.is))

pub files-preserved : goal.files-preserved
files-preserved c =
    let file = file_at c.args.files.now (c.files.i + 1) in
    let within : c.files.i < length c.args.files.now = omega (arith, c.files-test.true, c.len-i-end.ensures.len) in
    c.files.invariant ∙ said_on (refused_in c.args.map.now) c.args.files.now c.files.i within (sym (c.refused_in.ensures file c.get.ensures) ∙ c.in_default.is)

pub returns : goal.returns
returns c = region_is c.args.map.now c.args.files.now _ (c.files.invariant ∙ said_none (refused_in c.args.map.now) c.args.files.now (1 + c.files.i) c.files.i (omega (arith, c.files-test.false, c.len-i-end.ensures.len)))
