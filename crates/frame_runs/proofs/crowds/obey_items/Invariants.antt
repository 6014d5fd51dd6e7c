use Rattle.std.proofs.Common.{◌≡◌, map, take, fold}
use Rattle.frame_runs.specs.Crowds.{obeying}
use Rattle.frame_runs.proofs.crowds.obey_items.Given as goal

-- the items so far were obeyed
abbrev pub invariant-items : goal.invariant-items
invariant-items g l = record {
  subjects : map g.S.Subject.seen l.crowd.subjects ≡ fold obeying (map g.S.Subject.seen l.fn.crowd.subjects) (take l.item-index l.items);
  readings : l.crowd.readings ≡ l.fn.crowd.readings;
}
