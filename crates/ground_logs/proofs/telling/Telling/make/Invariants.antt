use Rattle.std.proofs.Common.{◌≡◌, ℕ, List, length}
use Rattle.std.specs.Io.KnownBytes.{Consumes}
use Rattle.ground_logs.specs.Making.{IsWritten}
use Rattle.ground_logs.proofs.telling.Telling.make.Given as goal

abbrev pub invariant-pieces : goal.invariant-pieces
invariant-pieces g l = record {
  size : length l.piece ≡ 16384;
  maker : l.lines.maker ≡ l.initial.lines.maker;
  made : (text : List ℕ) × Consumes (g.R.Read.remaining l.fn.log) (g.R.Read.remaining l.log) text
      × IsWritten g.M.LineMaker.makes l.lines text (g.W.Write.contents l.fn.out) (g.W.Write.contents l.out);
}
