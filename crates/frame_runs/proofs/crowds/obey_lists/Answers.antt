use Rattle.std.proofs.Common.{map, ◌∙◌}
use Rattle.frame_runs.proofs.Obeying.{obeyed_lists}
use Rattle.frame_runs.proofs.crowds.obey_lists.Goals as goal

pub lists-preserved : goal.lists-preserved
lists-preserved g c = record {
  subjects = obeyed_lists (map g.S.Subject.seen c.args.crowd.now.subjects) (map g.S.Subject.seen c.lists.crowd.subjects) (map g.S.Subject.seen c.obey_items.new.crowd.subjects) c.args.lists.now c.lists.list-index c.list-item.result c.lists-test.true c.list-item.is
      c.lists.invariant.subjects c.obey_items.ensures.subjects;
  readings = c.obey_items.ensures.readings ∙ c.lists.invariant.readings;
}
