use Rattle.std.proofs.Common.{◌≡◌, ◌+◌, ◌≤◌, length}
use Rattle.table_texts.specs.Lines.{kept_of}
use Rattle.timed_plans.specs.Plans.{lines_said, schedule_said}
use Rattle.timed_plans.specs.Drafts.{shown_of, behind}
use Rattle.timed_plans.proofs.plan.read_plan.Given as goal

abbrev pub invariant-lines : goal.invariant-lines
invariant-lines l = record {
  said : shown_of (schedule_said l.commands l.text) ≡ behind l.draft (shown_of (lines_said l.commands l.draft.stage l.number (kept_of l.number l.rest)));
  room : l.number + length l.rest ≤ 1 + length l.text;
}

abbrev pub decreases-lines : goal.decreases-lines
decreases-lines l = length l.rest
