use Rattle.std.proofs.Common.{arith}
use Rattle.std.proofs.lemmas.List.{length-take}
use Rattle.ground_faults.proofs.entry_faults.begins_relative.Goals as goal

pub load_rts-requires : goal.load_rts-requires
load_rts-requires c = let size = length-take 2048 c.args.bytes.now in rw (c.front.ensures, size) (omega arith)
