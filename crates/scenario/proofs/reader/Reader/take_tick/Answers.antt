use Rattle.std.proofs.Common.{codes, sym, refl}
use Rattle.scenario.proofs.BeginLemmas.{tick_begins}
use Rattle.scenario.proofs.TakeLemmas.{taken}
use Rattle.scenario.proofs.reader.Reader.take_tick.Goals as goal

pub reads_tick-requires-clause-tick : goal.reads_tick-requires-clause-tick
reads_tick-requires-clause-tick c = tick_begins (codes "tick") refl

pub returns-in-Ok-clause-stands : goal.returns-in-Ok-clause-stands
returns-in-Ok-clause-stands c = λ t gave s.
    let between = c.is_between_lines.ensures c.if-not-is_between_lines.false in
    let begins = c.begins_with_tick.ensures c.if-not-begins_with_tick.false in
    taken c.args.self.now _ c.begin.new.self c.args.piece.now begins.0 between.0 between.1 between.2 between.0 between.1 refl
    c.begin.ensures.follows
    (record {
      hidden = c.begin.ensures.hidden;
      placed = c.in-Ok.ensures.placed;
      good = λ old f. sym (c.in-Ok.ensures.value old f);
      follows = c.pass_tick.ensures.follows;
      keeps = c.pass_tick.ensures.shows;
    }) begins.1 t gave s
