use Rattle.std.proofs.Common.{refl, take}
use Rattle.scenario.proofs.PassLemmas.{reads_packet}
use Rattle.scenario.proofs.progress.Progress.pass_send.Goals as goal

pub returns-clause-passes : goal.returns-clause-passes
returns-clause-passes c = λ passed.
    let can = c.if-not-may_send.ensures refl in
    let packet = take c.in-Some-read_send.count c.read_send.new.places in
    record {
      packet = packet;
      placed = can.stands;
      good = reads_packet c.args.self.now c.args.line.now c.in-Some.rest.now packet c.args.takes c.requires.hidden can c.in-Some.ensures (c.in-Some-read_send.ensures.said (c.pass_packet.ensures.good passed));
      follows = c.pass_packet.ensures.follows passed;
      keeps = c.pass_packet.ensures.shows passed;
    }
