use Rattle.std.proofs.Common.{◌≡◌, ◌++◌}
use Rattle.std.specs.Prelude.{replicate}
use Rattle.plan_text.specs.Lines.{text_of, tick}
use Rattle.plan_text.proofs.writing.put_ticks.Given as goal

abbrev pub invariant-loop-done : goal.invariant-loop-done
invariant-loop-done l = l.out.items ≡ l.fn.out.items ++ text_of (replicate l._done tick)
