use Rattle.std.proofs.Common.{◌≡◌, ◌∙◌, ◌/◌, arith, length}
use Rattle.std.proofs.lemmas.List.{length-set}
use Rattle.log_lines.proofs.WordsLemmas.{bytes_more, bytes_bad, bytes_end, odd_none}
use Rattle.log_lines.proofs.numbers.read_bytes.Goals as goal

pub returns-then-word-ne0-clause-bytes : goal.returns-then-word-ne0-clause-bytes
returns-then-word-ne0-clause-bytes c = odd_none c.args.word.now c.if-word-ne0.true

pub returns-in_default-clause-bytes : goal.returns-in_default-clause-bytes
returns-in_default-clause-bytes c = c.loop-i.invariant.said ∙ bytes_bad c.args.word.now _ c.loop-i.i (omega arith) c.in_default.ensures

pub loop-i-preserved : goal.loop-i-preserved
loop-i-preserved c =
    let pair = c.in-Some.ensures in
    record {
      said = c.loop-i.invariant.said ∙ bytes_more c.args.word.now c.loop-i.places c.loop-i.i _ (omega arith) (omega arith) pair.0 pair.1;
      room = length-set c.loop-i.places c.loop-i.i _ ∙ c.loop-i.invariant.room;
    }

pub returns-clause-bytes : goal.returns-clause-bytes
returns-clause-bytes c =
    let at : length c.args.word.now / 2 ≡ c.loop-i.i = omega arith in
    rw at (c.loop-i.invariant.said ∙ bytes_end c.args.word.now _ c.loop-i.i (omega arith))
