use Rattle.std.proofs.Common.{length, sym, arith}
use Rattle.std.proofs.lemmas.List.{take_all}
use Rattle.log_lines.proofs.LogLemmas.{stands_more, stands_line}
use Rattle.log_lines.proofs.log_reader.LogReader.feed.Goals as goal

pub returns-in-Some-clause-stands : goal.returns-in-Some-clause-stands
returns-in-Some-clause-stands c = λ text gave s.
    stands_line c.args.self.now c.keep.new.self c.end_line.new.self text c.args.piece.now gave c.end_line.new.said c.end_line.result c.in-Some.at s (sym c.in-Some.ensures)
    (rw (← c.front.ensures) c.keep.ensures.kept) c.keep.ensures.lines c.end_line.ensures.answer c.end_line.ensures.lines c.end_line.ensures.kept

pub returns-in-None-clause-stands : goal.returns-in-None-clause-stands
returns-in-None-clause-stands c = λ text gave s.
    rw (take_all (length c.args.piece.now) c.args.piece.now (omega arith))
    (stands_more c.args.self.now c.keep-in-None.new.self text c.args.piece.now gave c.args.said.now s (sym c.in-None.ensures) c.keep-in-None.ensures.kept c.keep-in-None.ensures.lines)
