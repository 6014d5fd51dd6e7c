use Rattle.std.proofs.Common.{refl, subst, Some}
use Rattle.scenario.specs.declared.sentence.Sentence.TheVariants as says
use Rattle.scenario.specs.Texts.{passed}
use Rattle.scenario.specs.Following.{Follows}
use Rattle.scenario.proofs.reader.Reader.pass_tick.Goals as goal

pub returns : goal.returns
returns c = record {
  line = c.clear.ensures;
  whole = refl;
  finished = refl;
  follows = λ old line f. subst (λ n. Follows c.pass_tick.new.self (passed old (record { bytes = line; takes = n }) (Some says.Tick))) c.takes-takes.ensures.value (c.pass_tick.ensures.follows old line f);
  keeps = c.pass_tick.ensures.shows;
  answer = refl;
}
