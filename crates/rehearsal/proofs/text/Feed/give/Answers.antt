use Rattle.std.proofs.Common.{◌<◌, ℕ, List, take, ap, subst}
use Rattle.scenario.specs.Standing.{Stands, fed}
use Rattle.rehearsal.specs.Fed.{Fed}
use Rattle.rehearsal.proofs.Pieces.{less_pending, fed_on}
use Rattle.rehearsal.proofs.text.Feed.give.Goals as goal

pub returns-clause-less : goal.returns-clause-less
returns-clause-less c =
    let some : 0 < c.feed-taken.result = c.feed-taken.ensures.some c.requires.waits (rw c.pending.ensures c.requires.some) in
    less_pending c.args.reader.now c.feed-taken.new.self c.args.self.now c.advance.new.self c.feed-taken.result some
    (rw (← c.pending.ensures) c.feed-taken.ensures.taken) c.advance.ensures c.feed-taken.ensures.left

pub returns-clause-holds : goal.returns-clause-holds
returns-clause-holds c = λ text gave h is_open.
    let stands = subst (λ (piece : List ℕ). Stands c.feed-taken.new.self (fed text (take c.feed-taken.result piece)) gave) c.pending.ensures (c.feed-taken.ensures.stands text gave h.stands) in (
      c.feed-taken.result,
      fed_on c.args.reader.now c.feed-taken.new.self c.args.self.now c.advance.new.self text gave gave c.feed-taken.result h is_open (rw (← c.pending.ensures) c.feed-taken.ensures.taken) stands c.advance.ensures,
      ap (λ (f : Fed). f.pending) c.advance.ensures,
    )
