use Rattle.std.proofs.Common.{map, ◌∙◌}
use Rattle.frame_runs.proofs.Obeying.{obeyed_front}
use Rattle.frame_runs.proofs.crowds.obey_items.Goals as goal

pub items-preserved : goal.items-preserved
items-preserved g c = record {
  subjects = obeyed_front (map g.S.Subject.seen c.args.crowd.now.subjects) (map g.S.Subject.seen c.items.crowd.subjects) (map g.S.Subject.seen c.obey_item.new.crowd.subjects) c.args.items.now c.items.item-index c.item-item.result c.items-test.true c.item-item.is
      c.items.invariant.subjects c.obey_item.ensures.subjects;
  readings = c.obey_item.ensures.readings ∙ c.items.invariant.readings;
}
