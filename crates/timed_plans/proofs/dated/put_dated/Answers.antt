use Rattle.std.proofs.Common.{arith}
use Rattle.timed_plans.proofs.DatedLemmas.{said_first, said_more, fault_gives, said_all}
use Rattle.timed_plans.proofs.dated.put_dated.Goals as goal

pub words-init : goal.words-init
words-init c = record { said = said_first c.args.epoch.now c.args.line.now c.clear.new.self.items c.clear.ensures.items; room = omega arith }

pub words-preserved : goal.words-preserved
words-preserved c =
    let g = c.in-Ok.ensures in
    record {
      said = said_more c.args.epoch.now c.words.number c.in-Some.word.now g.0 c.words.rest.now c.in-Some.more.now c.words.out.items c.put_dated_word.new.out.items _ c.words.invariant.said c.in-Some.ensures.words g.1 g.2 g.3;
      room = omega (arith, c.in-Some.ensures.size, c.in-Some.ensures.filled, c.words.invariant.room);
    }

pub returns-in-Err : goal.returns-in-Err
returns-in-Err c =
    fault_gives c.args.epoch.now c.words.number c.in-Some.word.now c.words.rest.now c.in-Some.more.now c.words.out.items c.put_dated_word.new.out.items c.in-Err.error _ c.words.invariant.said c.in-Some.ensures.words c.in-Err.ensures

pub returns : goal.returns
returns c = said_all c.args.epoch.now c.words.number c.words.rest.now c.words.out.items _ c.words.invariant.said c.in_default.ensures.words
