use Rattle.std.proofs.Common.{refl, subst}
use Rattle.rehearsal.specs.Fed.{Fed}
use Rattle.rehearsal.specs.Text.{IsFedOn}
use Rattle.rehearsal.proofs.text.next_item.Goals as goal

pub next_by_lines-requires : goal.next_by_lines-requires
next_by_lines-requires c =
    let s = c.requires.holds in
    record { holds = (s.0, s.1, c.if-give_tick.ensures.kept refl s.0 s.1 s.2) }

-- no line was taken where it lies
pub returns-clause-gives : goal.returns-clause-gives
returns-clause-gives c = λ text gave h.
    let next = c.next_by_lines.ensures.gives text gave (c.if-give_tick.ensures.kept refl text gave h) in
    (next.0, next.1, subst (λ (f : Fed). IsFedOn text f.pending next.0 c.next_by_lines.new.feed.pending) (c.if-give_tick.ensures.same refl) next.2)
