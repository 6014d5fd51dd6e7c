use Rattle.std.proofs.Common.{sym}
use Rattle.hs_monitors.proofs.Countdowns.{ends_at, acts_there, acts_once}
use Rattle.hs_monitors.proofs.Acting.{counting, countdown_steps, countdown_none}
use Rattle.hs_monitors.proofs.laws.acts_where_the_countdown_ends.Goals as goal

pub returns : goal.returns
returns c = record {
  ends = λ n earlier this some acts. ends_at n earlier this some acts;
  there = λ n earlier this some runs over. acts_there n earlier this some runs over;
  once = λ n earlier later this that acts. acts_once n earlier later this that acts;
  begins = λ n. sym (countdown_none n);
  steps = λ n earlier this some runs. countdown_steps n earlier this some (counting n earlier runs);
}
