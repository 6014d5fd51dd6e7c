use Rattle.std.proofs.Common.{◌≤◌, List}
use Rattle.scenario.specs.Texts.{Text, Given}
use Rattle.rehearsal.specs.Text.{IsFedOn, Holds, work_left}
use Rattle.rehearsal.proofs.text.next_by_lines.Given as goal

-- some of what was pending was fed
abbrev pub invariant-items : goal.invariant-items
invariant-items l = record {
  fed : (text : Text) (gave : List Given) → Holds l.initial.reader l.initial.feed text gave → (now : Text) × Holds l.reader l.feed now gave × IsFedOn text l.initial.feed.pending now l.feed.pending;
  less : work_left l.reader l.feed ≤ work_left l.initial.reader l.initial.feed;
}

abbrev pub decreases-items : goal.decreases-items
decreases-items l = work_left l.reader l.feed
