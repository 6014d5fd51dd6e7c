use Rattle.md_dwell.proofs.Beginnings.{all_begin, before_all, activated_begins, activated_keeps}
use Rattle.md_dwell.proofs.laws.streams_begin_in_the_next_wakeup.Goals as goal

pub returns : goal.returns
returns c = record {
  begin = all_begin;
  before_all = before_all;
  activated = activated_begins;
  kept = activated_keeps;
}
