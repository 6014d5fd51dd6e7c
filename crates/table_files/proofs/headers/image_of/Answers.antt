use Rattle.std.proofs.Common.{arith, sym, ◌∙◌}
use Rattle.table_files.proofs.Accepted.{long, table_file, load_file}
use Rattle.table_files.proofs.headers.image_of.Goals as goal

pub is_load-requires : goal.is_load-requires
is_load-requires c = omega (arith, long c.args.bytes.now c.requires)

pub load_in-at-requires : goal.load_in-at-requires
load_in-at-requires c = long c.args.bytes.now c.requires

pub returns-then-is_load : goal.returns-then-is_load
returns-then-is_load c = load_file c.args.bytes.now _ _ c.requires (sym c.is_load.ensures ∙ c.if-is_load.true) c.load_in-at.ensures.at c.load_in-at.ensures.bytes

pub returns : goal.returns
returns c = table_file c.args.bytes.now c.kind_of.result c.behind.result.now c.requires (sym c.is_load.ensures ∙ c.if-is_load.false) c.kind_of.ensures c.behind.ensures
