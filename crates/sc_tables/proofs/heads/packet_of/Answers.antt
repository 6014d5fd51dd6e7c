use Rattle.std.proofs.Common.{sym, arith, length-take-le}
use Rattle.sc_tables.specs.Heads.{packet_of}
use Rattle.sc_tables.proofs.Fronts.{front_of, front_sound}
use Rattle.sc_tables.proofs.heads.packet_of.Goals as goal

pub packet_size-requires : goal.packet_size-requires
packet_size-requires c = let front = front_of c.args.bytes.now c.requires in omega arith

pub slice_bounds-from_bytes-end : goal.slice_bounds-from_bytes-end
slice_bounds-from_bytes-end c =
    let front = front_of c.args.bytes.now c.requires in
    sym (length-take-le c.packet_size.result c.args.bytes.now (omega arith))

pub unreachable-requires : goal.unreachable-requires
unfolding packet_of
unreachable-requires c =
    let sound = front_sound c.args.bytes.now (front_of c.args.bytes.now c.requires) in
    let fault = rw c.packet_size.ensures.size at c.in-Err.ensures.fault in
    cc

pub returns : goal.returns
unfolding packet_of
returns c = rw (← c.packet_size.ensures.size) c.in-Ok.ensures.packet
