use Rattle.std.proofs.Common.{◌≡◌, ◌+◌, ℕ, List, ◌++◌, refl, sym, ap, ◌∙◌}
use Rattle.bus_pipes.proofs.Deliveries.{adding_none}
use Rattle.commands.specs.Verdicts.{Language, orders_in}
use Rattle.commands.specs.declared.verdicts.Verdict.TheVariants.{Other, Request, Refused, Accepted}
use Rattle.commands.proofs.Heard.{orders_same, orders_more, event_behind, event_as, replies_and_event, packet_answered, own_refused, own_passes}
use Rattle.commands.proofs.Tallies.{note_neither}
use Rattle.commands.proofs.step.handle.Goals as goal

-- what a command asks for in one language it asks for in an equal one
decoded_by : {I : Type 0} (theirs ours : Language I) → theirs ≡ ours → (code : ℕ) (read payload : List ℕ) → read ≡ payload → (instruction : I) → instruction ≡ ours.decode code read → instruction ≡ theirs.decode code payload
decoded_by theirs ours same code read payload handed instruction decoded = rw (same, sym handed) decoded

pub returns-in-Other-clause-counts : goal.returns-in-Other-clause-counts
returns-in-Other-clause-counts g c = λ turn heard belongs stood counted.
    rw (c.judge.ensures.verdict (g.S.Commanded.basis turn) (orders_in heard), c.in-Other.is) (note_neither c.args.counts.now (g.S.Commanded.answers.earlier turn ++ heard) Other counted refl refl refl)

pub returns-in-Other-clause-stands : goal.returns-in-Other-clause-stands
returns-in-Other-clause-stands g c = λ turn heard belongs stood.
    rw (c.judge.ensures.verdict (g.S.Commanded.basis turn) (orders_in heard), c.in-Other.is, orders_same heard Other refl) stood

pub returns-in-Other-clause-items : goal.returns-in-Other-clause-items
returns-in-Other-clause-items g c = λ turn heard belongs stood counted.
    rw (c.judge.ensures.verdict (g.S.Commanded.basis turn) (orders_in heard), c.in-Other.is)
    (packet_answered g.S.Commanded.answers g.S.Instruction.Command.language.name turn heard Other c.args.now c.args.counts.now c.args.out.now c.args.out.now
    (g.met.S.Commanded.timed turn c.args.reads c.args.now belongs) counted (sym (adding_none c.args.out.now)))

pub returns-in-Request-clause-counts : goal.returns-in-Request-clause-counts
returns-in-Request-clause-counts g c = λ turn heard belongs stood counted.
    rw (c.judge.ensures.verdict (g.S.Commanded.basis turn) (orders_in heard), c.in-Request.is) (note_neither c.args.counts.now (g.S.Commanded.answers.earlier turn ++ heard) Request counted refl refl refl)

pub returns-in-Request-clause-stands : goal.returns-in-Request-clause-stands
returns-in-Request-clause-stands g c = λ turn heard belongs stood.
    rw (c.judge.ensures.verdict (g.S.Commanded.basis turn) (orders_in heard), c.in-Request.is, orders_same heard Request refl) stood

pub returns-in-Request-clause-items : goal.returns-in-Request-clause-items
returns-in-Request-clause-items g c = λ turn heard belongs stood counted.
    rw (c.judge.ensures.verdict (g.S.Commanded.basis turn) (orders_in heard), c.in-Request.is)
    (packet_answered g.S.Commanded.answers g.S.Instruction.Command.language.name turn heard Request c.args.now c.args.counts.now c.args.out.now c.push.new.self
    (g.met.S.Commanded.timed turn c.args.reads c.args.now belongs) counted (rw (sym (c.housekeeping.ensures.packet turn (orders_in heard) c.args.left.now belongs stood)) c.push.ensures.after))

pub returns-in-Refused-clause-stands : goal.returns-in-Refused-clause-stands
returns-in-Refused-clause-stands g c = λ turn heard belongs stood.
    rw (c.judge.ensures.verdict (g.S.Commanded.basis turn) (orders_in heard), c.in-Refused.is, orders_same heard (Refused c.in-Refused.reason) refl) stood

pub returns-in-Refused-clause-items : goal.returns-in-Refused-clause-items
returns-in-Refused-clause-items g c = λ turn heard belongs stood counted.
    rw (c.judge.ensures.verdict (g.S.Commanded.basis turn) (orders_in heard), c.in-Refused.is)
    (packet_answered g.S.Commanded.answers g.S.Instruction.Command.language.name turn heard (Refused c.in-Refused.reason) c.args.now c.args.counts.now c.args.out.now c.push_event.new.out
    (g.met.S.Commanded.timed turn c.args.reads c.args.now belongs) counted (event_as _ _ _ _ _ _ _ _ c.name.ensures c.from.ensures c.push_event.ensures.after))

pub returns-in-Refused-clause-counted : goal.returns-in-Refused-clause-counted
returns-in-Refused-clause-counted g c = λ before. event_behind c.args.out.now c.push_event.new.out _ _ _ _ c.push_event.ensures.after before

pub returns-in-Some-clause-stands : goal.returns-in-Some-clause-stands
returns-in-Some-clause-stands g c = λ turn heard belongs stood.
    let protocol = g.S.Commanded.protocol in
    rw (
      own_refused protocol (g.S.Commanded.basis turn) (orders_in heard) _ _ c.judge.result c.in-Accepted.code _ c.decode-instruction.result c.refusal.result c.in-Some.reason
          (c.judge.ensures.verdict (g.S.Commanded.basis turn) (orders_in heard)) c.in-Accepted.is (decoded_by g.S.Commanded.protocol.language g.S.Instruction.Command.language g.met.S.Commanded.speaks c.in-Accepted.code _ _ c.payload.ensures c.decode-instruction.result c.decode-instruction.ensures) (c.refusal.ensures.refusal turn (orders_in heard) c.args.left.now belongs stood) c.in-Some.is,
      orders_same heard (Refused (g.S.Commanded.protocol.number c.in-Some.reason)) refl,
    ) stood

pub returns-in-Some-clause-items : goal.returns-in-Some-clause-items
returns-in-Some-clause-items g c = λ turn heard belongs stood counted.
    let protocol = g.S.Commanded.protocol in
    rw (own_refused protocol (g.S.Commanded.basis turn) (orders_in heard) _ _ c.judge.result c.in-Accepted.code _ c.decode-instruction.result c.refusal.result c.in-Some.reason
    (c.judge.ensures.verdict (g.S.Commanded.basis turn) (orders_in heard)) c.in-Accepted.is (decoded_by g.S.Commanded.protocol.language g.S.Instruction.Command.language g.met.S.Commanded.speaks c.in-Accepted.code _ _ c.payload.ensures c.decode-instruction.result c.decode-instruction.ensures) (c.refusal.ensures.refusal turn (orders_in heard) c.args.left.now belongs stood) c.in-Some.is)
    (packet_answered g.S.Commanded.answers g.S.Instruction.Command.language.name turn heard (Refused (g.S.Commanded.protocol.number c.in-Some.reason)) c.args.now c.args.counts.now c.args.out.now c.push_event-in-Some.new.out
    (g.met.S.Commanded.timed turn c.args.reads c.args.now belongs) counted (event_as _ _ _ _ _ _ _ _ c.name-in-Some.ensures (c.from-in-Some.ensures ∙ c.number.ensures ∙ ap (λ (number : _ → ℕ). number c.in-Some.reason) (sym g.met.S.Commanded.numbers)) c.push_event-in-Some.ensures.after))

pub returns-in-Some-clause-counted : goal.returns-in-Some-clause-counted
returns-in-Some-clause-counted g c = λ before. event_behind c.args.out.now c.push_event-in-Some.new.out _ _ _ _ c.push_event-in-Some.ensures.after before

pub returns-in_default-clause-stands : goal.returns-in_default-clause-stands
returns-in_default-clause-stands g c = λ turn heard belongs stood.
    let protocol = g.S.Commanded.protocol in
    rw (
      own_passes protocol (g.S.Commanded.basis turn) (orders_in heard) _ _ c.judge.result c.in-Accepted.code _ c.decode-instruction.result c.refusal.result
          (c.judge.ensures.verdict (g.S.Commanded.basis turn) (orders_in heard)) c.in-Accepted.is (decoded_by g.S.Commanded.protocol.language g.S.Instruction.Command.language g.met.S.Commanded.speaks c.in-Accepted.code _ _ c.payload.ensures c.decode-instruction.result c.decode-instruction.ensures) (c.refusal.ensures.refusal turn (orders_in heard) c.args.left.now belongs stood) c.in_default.is,
      orders_more heard (Accepted c.in-Accepted.code c.decode-instruction.result) c.decode-instruction.result refl,
    ) (c.obey.ensures.stands turn (orders_in heard) belongs stood)

pub returns-in_default-clause-items : goal.returns-in_default-clause-items
returns-in_default-clause-items g c = λ turn heard belongs stood counted.
    let protocol = g.S.Commanded.protocol in
    rw (own_passes protocol (g.S.Commanded.basis turn) (orders_in heard) _ _ c.judge.result c.in-Accepted.code _ c.decode-instruction.result c.refusal.result
    (c.judge.ensures.verdict (g.S.Commanded.basis turn) (orders_in heard)) c.in-Accepted.is (decoded_by g.S.Commanded.protocol.language g.S.Instruction.Command.language g.met.S.Commanded.speaks c.in-Accepted.code _ _ c.payload.ensures c.decode-instruction.result c.decode-instruction.ensures) (c.refusal.ensures.refusal turn (orders_in heard) c.args.left.now belongs stood) c.in_default.is)
    (packet_answered g.S.Commanded.answers g.S.Instruction.Command.language.name turn heard (Accepted c.in-Accepted.code c.decode-instruction.result) c.args.now c.args.counts.now c.args.out.now c.push_event-in-Accepted.new.out
    (g.met.S.Commanded.timed turn c.args.reads c.args.now belongs) counted
    (replies_and_event _ c.obey.new.out _ _ _ (c.obey.ensures.items turn (orders_in heard) belongs stood)
    (event_as _ _ _ _ _ _ _ _ c.name-in-Accepted.ensures (ap (λ (n : ℕ). 16 + n) c.from-in-Accepted.ensures) c.push_event-in-Accepted.ensures.after)))

pub returns-in_default-clause-counted : goal.returns-in_default-clause-counted
returns-in_default-clause-counted g c = λ before.
    event_behind c.obey.new.out c.push_event-in-Accepted.new.out _ _ _ _ c.push_event-in-Accepted.ensures.after (c.obey.ensures.counted before)
