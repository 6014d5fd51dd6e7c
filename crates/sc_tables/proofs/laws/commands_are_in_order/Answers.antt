use Rattle.sc_tables.proofs.Orders.{before_tells, before_is, in_order_moves, in_order_rises, pairs_rise}
use Rattle.sc_tables.specs.Absolute.{in_order}
use Rattle.sc_tables.proofs.Grammars.{commands_ordered}
use Rattle.sc_tables.proofs.laws.commands_are_in_order.Goals as goal

pub returns : goal.returns
returns c = record {
  test = λ a b. (before_tells a b, before_is a b);
  moved = in_order_moves;
  order = λ commands apart. pairs_rise (in_order commands) (in_order_rises commands apart);
  loaded = commands_ordered;
}
