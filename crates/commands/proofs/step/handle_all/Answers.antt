use Rattle.std.proofs.Common.{◌≡◌, ◌+◌, ◌++◌, ◌∷◌, [], take, length, refl, ap, ◌∙◌, append-nil, append_assoc, arith}
use Rattle.histories.proofs.Fronts.{front_more}
use Rattle.commands.specs.Verdicts.{orders_in, verdict_at, verdicts_on}
use Rattle.commands.specs.Counting.{counts_of}
use Rattle.commands.proofs.Answering.{none_fail}
use Rattle.commands.proofs.Heard.{orders_none, verdicts_none, verdicts_more, items_none, items_step}
use Rattle.commands.proofs.step.handle_all.Goals as goal

pub loop-packet-init : goal.loop-packet-init
loop-packet-init g c =
    let protocol = g.S.Commanded.protocol in
    record {
      few = omega (arith, ap length c.requires.empty);
      room = refl;
      safe = c.requires.safe;
      counted = rw c.requires.empty (none_fail _);
      stand = λ turn belongs stood. rw (verdicts_none protocol (g.S.Commanded.basis turn), orders_none _) stood;
      counts = λ turn belongs stood counted. rw (verdicts_none protocol (g.S.Commanded.basis turn), append-nil (g.S.Commanded.answers.earlier turn)) counted;
      items = λ turn belongs stood counted. rw (verdicts_none protocol (g.S.Commanded.basis turn)) (items_none g.S.Commanded.answers g.S.Instruction.Command.language.name turn c.args.out.now);
    }

pub loop-packet-preserved : goal.loop-packet-preserved
loop-packet-preserved g c =
    let protocol = g.S.Commanded.protocol in
    let held = c.loop-packet.invariant in
    let p = c.packet-item.result in
    let done = take c.loop-packet.packet-index c.args.packets.now in
    let front : take (c.loop-packet.packet-index + 1) c.args.packets.now ≡ done ++ p ∷ [] = front_more c.args.packets.now c.loop-packet.packet-index p c.loop-packet-test.true c.packet-item.is in
    rw front (record {
      few = omega arith;
      room = c.handle.ensures.room ∙ held.room;
      safe = c.handle.ensures.safe c.loop-packet.packet-index (omega arith) held.safe;
      counted = c.handle.ensures.counted held.counted;
      stand = λ turn belongs stood.
          rw (verdicts_more protocol (g.S.Commanded.basis turn) done p) (c.handle.ensures.stands turn (verdicts_on protocol (g.S.Commanded.basis turn) done) belongs (held.stand turn belongs stood));
      counts = λ turn belongs stood counted.
          rw (verdicts_more protocol (g.S.Commanded.basis turn) done p)
          (c.handle.ensures.counts turn (verdicts_on protocol (g.S.Commanded.basis turn) done) belongs (held.stand turn belongs stood) (held.counts turn belongs stood counted)
          ∙ ap counts_of (append_assoc (g.S.Commanded.answers.earlier turn) (verdicts_on protocol (g.S.Commanded.basis turn) done) (verdict_at protocol (g.S.Commanded.basis turn) (orders_in (verdicts_on protocol (g.S.Commanded.basis turn) done)) p ∷ [])));
      items = λ turn belongs stood counted.
          rw (verdicts_more protocol (g.S.Commanded.basis turn) done p)
          (items_step g.S.Commanded.answers g.S.Instruction.Command.language.name turn c.args.out.now c.loop-packet.out c.handle.new.out (verdicts_on protocol (g.S.Commanded.basis turn) done) _
          (held.items turn belongs stood counted)
          (c.handle.ensures.items turn (verdicts_on protocol (g.S.Commanded.basis turn) done) belongs (held.stand turn belongs stood) (held.counts turn belongs stood counted)));
    })
