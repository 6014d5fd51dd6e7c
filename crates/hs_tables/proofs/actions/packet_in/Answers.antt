use Rattle.hs_tables.proofs.Areas.{long_packet, whole_packet, faulty_packet}
use Rattle.hs_tables.proofs.actions.packet_in.Goals as goal

pub returns-then-size-gt-AREA : goal.returns-then-size-gt-AREA
returns-then-size-gt-AREA c = long_packet c.args.area.now c.be16.result c.be16.ensures c.if-size-gt-AREA.true

pub returns-in-Ok : goal.returns-in-Ok
returns-in-Ok c = whole_packet c.args.area.now c.be16.result c.be16.ensures c.if-size-gt-AREA.false c.in-Ok.packet c.in-Ok.ensures.packet c.in-Ok.ensures.fault

pub returns-in-Err : goal.returns-in-Err
returns-in-Err c = faulty_packet c.args.area.now c.be16.result c.be16.ensures c.if-size-gt-AREA.false _ c.in-Err.ensures.fault
