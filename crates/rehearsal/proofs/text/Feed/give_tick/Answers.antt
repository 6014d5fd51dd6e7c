use Rattle.std.proofs.Common.{◌<◌, ◌≤◌, ℕ, List, take, length, refl, ap, subst, arith}
use Rattle.std.proofs.Common.{true}
use Rattle.scenario.specs.Standing.{TakesTick, fed}
use Rattle.rehearsal.specs.Fed.{Fed}
use Rattle.rehearsal.proofs.Pieces.{fed_on, fed_none, fed_on_again, open_with, less_taken, less_kept}
use Rattle.rehearsal.proofs.text.Feed.give_tick.Goals as goal

-- nothing was fed
pub returns-then-not-take_tick-clause-less : goal.returns-then-not-take_tick-clause-less
returns-then-not-take_tick-clause-less c = less_kept c.args.reader.now c.take_tick.new.self c.args.self.now c.args.self.now refl c.take_tick.ensures.left

-- five bytes were fed, and their line gave a frame
pub returns-clause-taken : goal.returns-clause-taken
returns-clause-taken c = λ _ text gave h.
    let f = c.args.self.now in
    let within : 5 ≤ length f.pending = rw (← c.pending.ensures) (c.if-not-take_tick.ensures.enough refl) in
    let some : 0 < length f.pending = omega (arith, within) in
    let taken = subst (λ (piece : List ℕ). TakesTick true piece text gave c.take_tick.new.self) c.pending.ensures (c.if-not-take_tick.ensures.stands text gave h.stands) in
    let holds = fed_on c.args.reader.now c.take_tick.new.self f c.advance.new.self text gave _ 5 h (open_with c.args.reader.now f text gave h some) within taken.0 c.advance.ensures in
    (fed text (take 5 f.pending), (holds, taken.1), fed_on_again text text f.pending f.pending c.advance.new.self.pending 5 (ap (λ (g : Fed). g.pending) c.advance.ensures) (fed_none text f.pending))

pub returns-clause-less : goal.returns-clause-less
returns-clause-less c =
    let f = c.args.self.now in
    let within : 5 ≤ length f.pending = rw (← c.pending.ensures) (c.if-not-take_tick.ensures.enough refl) in
    less_taken c.args.reader.now c.take_tick.new.self f c.advance.new.self 5 within c.advance.ensures c.if-not-take_tick.ensures.left
