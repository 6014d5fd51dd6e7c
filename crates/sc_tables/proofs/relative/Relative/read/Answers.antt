use Rattle.std.proofs.Common.{arith}
use Rattle.std.proofs.lemmas.List.{take_rest}
use Rattle.sc_tables.proofs.Fronts.{relative_front}
use Rattle.sc_tables.proofs.relative.Relative.read.Goals as goal

pub be16-requires : goal.be16-requires
be16-requires c = let front = relative_front c.args.bytes.now c.requires in omega arith

pub slice_bounds-packet_of-count : goal.slice_bounds-packet_of-count
slice_bounds-packet_of-count c = let front = relative_front c.args.bytes.now c.requires in omega arith

pub slice_bounds-packet_of-start : goal.slice_bounds-packet_of-start
slice_bounds-packet_of-start c = let front = relative_front c.args.bytes.now c.requires in omega arith

pub packet_of-requires : goal.packet_of-requires
packet_of-requires c = rw (take_rest c.args.bytes.now 2) (relative_front c.args.bytes.now c.requires).sound
