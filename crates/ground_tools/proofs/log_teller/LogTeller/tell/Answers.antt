use Rattle.std.proofs.Common.{◌++◌, ◌∙◌, take, subst}
use Rattle.ground_tools.specs.Telling.{Stands}
use Rattle.ground_tools.proofs.TellingLemmas.{parts_join, stands_on, part_fits}
use Rattle.ground_tools.proofs.log_teller.LogTeller.tell.Goals as goal

pub returns-then-is_some-clause-told : goal.returns-then-is_some-clause-told
returns-then-is_some-clause-told c = λ front text s.
    parts_join c.step.new.self front text c.step.new.out.items c.args.piece.now c.lines.taken c.in_ok-step.step.taken
    (subst (λ xs. Stands c.step.new.self front ((text ++ take c.lines.taken c.args.piece.now) ++ take c.in_ok-step.step.taken xs) c.step.new.out.items) c.behind.ensures
    (stands_on c.lines.self c.step.new.self front (text ++ take c.lines.taken c.args.piece.now) _ c.lines.out.items c.step.new.out.items
    (c.in_ok-step.ensures.told (text ++ take c.lines.taken c.args.piece.now) (c.lines.invariant.told front text s).reader) (c.lines.invariant.told front text s)))

pub lines-preserved : goal.lines-preserved
lines-preserved c = record {
  told = λ front text s.
      parts_join c.step.new.self front text c.step.new.out.items c.args.piece.now c.lines.taken c.in_ok-step.step.taken
      (subst (λ xs. Stands c.step.new.self front ((text ++ take c.lines.taken c.args.piece.now) ++ take c.in_ok-step.step.taken xs) c.step.new.out.items) c.behind.ensures
      (stands_on c.lines.self c.step.new.self front (text ++ take c.lines.taken c.args.piece.now) _ c.lines.out.items c.step.new.out.items
      (c.in_ok-step.ensures.told (text ++ take c.lines.taken c.args.piece.now) (c.lines.invariant.told front text s).reader) (c.lines.invariant.told front text s)));
  taken = part_fits c.args.piece.now c.behind.result.now c.lines.taken c.in_ok-step.step.taken c.lines.invariant.taken c.behind.ensures c.in_ok-step.ensures.taken;
  names = record {
    vocabulary = c.in_ok-step.ensures.names.vocabulary ∙ c.lines.invariant.names.vocabulary;
    epoch = c.in_ok-step.ensures.names.epoch ∙ c.lines.invariant.names.epoch;
  };
}
