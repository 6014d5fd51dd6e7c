use Rattle.std.proofs.Common.{◌∙◌, sym, arith}
use Rattle.load_books.proofs.ContentsLemmas.{place_found, place_passed, place_none, few_loads}
use Rattle.load_books.proofs.contents.find_place.Goals as goal

pub returns-then-eq : goal.returns-then-eq
returns-then-eq c = sym (c.loop-part.invariant.place ∙ place_found c.args.files.now c.loop-part.part-index _ c.loop-part.file c.loop-part.load c.args.name.now c.loop-part-test.true c.if-eq.ensures)

pub loop-part-preserved : goal.loop-part-preserved
loop-part-preserved c = record {
  place = c.loop-part.invariant.place ∙ place_passed c.args.files.now c.loop-part.part-index _ c.loop-part.file c.loop-part.load _ c.args.name.now c.loop-part-test.true c.if-eq.ensures c.loads_behind-load.ensures;
  file = omega (arith, c.loop-part.invariant.file);
  load = few_loads _ c.loop-part.load c.loads_behind-load.result c.loop-part.file c.loads_behind-load.ensures c.loop-part.invariant.load;
}

pub returns : goal.returns
returns c = sym (c.loop-part.invariant.place ∙ place_none c.args.files.now c.loop-part.part-index c.loop-part.file c.loop-part.load c.args.name.now c.loop-part-test.false)
