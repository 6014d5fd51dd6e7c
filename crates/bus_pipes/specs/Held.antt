-- A list with a reserved room.
use Rattle.std.specs.Prelude.{ℕ, List, [], ◌++◌, slice_set}

-- what is held, in order, and how much there is room for
pub record Held (X : Type 0) : Type 0 where
  pub items : List X
  pub room : ℕ

module _ {X : Type 0} where
  -- with more behind what is held
  unfoldable pub adding : Held X → List X → Held X
  adding held more = record { items = held.items ++ more; room = held.room }

  -- with nothing held
  abbrev pub emptied : Held X → Held X
  emptied held = record { items = []; room = held.room }

  -- with another item at a place
  abbrev pub with_item : Held X → ℕ → X → Held X
  with_item held at item = record { items = slice_set held.items at item; room = held.room }
