-- What a list with a reserved room ends as, where a `&mut` to one of its items is returned.
use Rattle.std.specs.Prelude.{ℕ}
use Rattle.std.specs.Borrow.{Lends, Fml, RattleType, MutBor}
use Rattle.bus_pipes.specs.Held.{Held, with_item}
use Rattle.bus_pipes.specs.contracts.reserved.ReservedList.{the_row}

module _ (T : RattleType) (list : MutBor (Held T.Denot)) where
  -- once the borrow ends, the place has the last value that was written through it
  abbrev pub lends_item : ℕ → MutBor T.Denot → Fml
  lends_item at item = Lends (the_row T) T list item (with_item list.now at)
