use Rattle.std.proofs.Common.{◌≡◌, ℕ, subst, arith}
use Rattle.hs_monitors.specs.Events.{sender_at}
use Rattle.hs_monitors.specs.Heads.{AreHeaded}
use Rattle.hs_monitors.proofs.events.senders_of.Goals as goal

pub loop-place-init : goal.loop-place-init
loop-place-init c = c.none-heads.ensures (sender_at c.args.events.now)

pub loop-place-preserved : goal.loop-place-preserved
loop-place-preserved c = c.note.ensures c.loop-place.invariant

pub returns : goal.returns
returns c =
    let all : c.loop-place.place ≡ 16 = omega arith in
    subst (λ (n : ℕ). AreHeaded (sender_at c.args.events.now) n c.loop-place.heads) all c.loop-place.invariant
