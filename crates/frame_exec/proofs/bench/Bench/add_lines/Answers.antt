use Rattle.frame_exec.proofs.Behind.{adds_part, adds_marked}
use Rattle.frame_exec.proofs.bench.Bench.add_lines.Goals as goal

pub returns-in_default-clause-adds : goal.returns-in_default-clause-adds
returns-in_default-clause-adds g c = adds_part _ _ _ _ _ _ c.in_default.ensures.puts c.in_default.ensures.left

pub returns-clause-adds : goal.returns-clause-adds
returns-clause-adds g c = adds_marked _ _ _ _ _ _ _ _ c.in-Ok.ensures.puts c.mark_end.ensures.told c.mark_end.ensures.notes c.mark_end.ensures.left
