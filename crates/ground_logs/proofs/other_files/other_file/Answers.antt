use Rattle.std.proofs.Common.{length, ap, ◌∙◌, arith}
use Rattle.std.proofs.lemmas.List.{length-take}
use Rattle.ground_logs.proofs.other_files.other_file.Goals as goal

pub next_line-requires : goal.next_line-requires
next_line-requires c = omega (arith, ap length c.front.ensures ∙ length-take 4096 c.args.begin.now)
