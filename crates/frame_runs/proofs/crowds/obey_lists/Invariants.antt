use Rattle.std.proofs.Common.{◌≡◌, map, take, fold}
use Rattle.frame_wires.specs.Sending.{shown}
use Rattle.frame_runs.specs.Crowds.{obeying}
use Rattle.frame_runs.proofs.crowds.obey_lists.Given as goal

-- the lists so far were obeyed
abbrev pub invariant-lists : goal.invariant-lists
invariant-lists g l = record {
  subjects : map g.S.Subject.seen l.crowd.subjects ≡ fold obeying (map g.S.Subject.seen l.fn.crowd.subjects) (shown (take l.list-index l.lists));
  readings : l.crowd.readings ≡ l.fn.crowd.readings;
}
