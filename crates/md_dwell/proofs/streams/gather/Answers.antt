use Rattle.std.proofs.Common.{arith, sym}
use Rattle.md_dwell.proofs.Rounds.{read_entry, last_read, last_reached}
use Rattle.md_dwell.proofs.streams.gather.Goals as goal

pub returns-then-entry-ne0-clause-read : goal.returns-then-entry-ne0-clause-read
returns-then-entry-ne0-clause-read c = λ from past read. read_entry _ from past _ _ _ _ _ _ c.loop-i-test.true c.read.ensures.bytes c.from.ensures (c.loop-i.invariant.read from past read)

pub returns-then-entry-ne0-clause-last : goal.returns-then-entry-ne0-clause-last
returns-then-entry-ne0-clause-last c = λ from past within read end. last_read _ from past _ c.loop-i.i _ c.loop-i-test.true end (c.loop-i.invariant.read from past read)

pub loop-i-preserved : goal.loop-i-preserved
loop-i-preserved c = record {
  held = omega arith;
  read = λ from past read. read_entry _ from past _ _ _ _ _ _ c.loop-i-test.true c.read.ensures.bytes (sym c.if-entry-ne0.false) (c.loop-i.invariant.read from past read);
}

pub returns-clause-last : goal.returns-clause-last
returns-clause-last c = λ from past within read end. last_reached _ from past _ c.args.next _ _ c.loop-i.i within c.loop-i-test.false read (c.loop-i.invariant.read from past read)
