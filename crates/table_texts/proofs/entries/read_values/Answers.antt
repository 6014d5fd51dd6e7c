use Rattle.std.proofs.Common.{arith}
use Rattle.std.proofs.lemmas.Bool.Decides.{nat_tests}
use Rattle.table_texts.proofs.LayoutLemmas.{layout_is, area_of}
use Rattle.table_texts.proofs.entries.read_values.Goals as goal

pub read_fields-requires : goal.read_fields-requires
read_fields-requires c = let is = layout_is _ c.requires.layout in is.short

pub read_area-requires-clause-few : goal.read_area-requires-clause-few
read_area-requires-clause-few c = let is = layout_is _ c.requires.layout in (area_of c.args.form.now.layout is (grind (arith, nat_tests))).front.few
