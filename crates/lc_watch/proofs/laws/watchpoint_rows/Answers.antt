use Rattle.std.proofs.Common.{refl}
use Rattle.packet_forms.specs.Numbers.{be16_at, be32_at}
use Rattle.lc_watch.specs.Watchpoints as w
use Rattle.lc_watch.proofs.laws.watchpoint_rows.Goals as goal

pub returns : goal.returns
unfolding be16_at be32_at w.row_reason
returns c = record {
  first = refl;
  last = refl;
  no_operator = refl;
  less = refl;
  less_or_equal = refl;
  not_equal = refl;
  equal = refl;
  greater_or_equal = refl;
  greater = refl;
  past_operators = refl;
  kind = refl;
  operator = refl;
  unused = refl;
  used = refl;
}
