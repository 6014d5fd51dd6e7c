use Rattle.std.proofs.Common.{◌≡◌, ◌-◌, ◌≤◌, ◌++◌, length, IsTrue}
use Rattle.fsw_outside.specs.Told.{WhereTold}
use Rattle.rehearsal.specs.Files.{IsSameOpening}
use Rattle.rehearsal.proofs.files.read_rest.Given as goal

-- what was read so far is what is gone of the rest, and no fault came
abbrev pub invariant-pieces : goal.invariant-pieces
invariant-pieces g l =
    let shelf = g.S.Shelf in
    record {
      opened : IsTrue (shelf.is_open l.shelf);
      piece : length l.piece ≡ 4096;
      few : length l.bytes.items ≤ 65701;
      read : WhereTold (shelf.told l.initial.shelf) (shelf.told l.shelf) (λ before after. IsSameOpening before after × (before.rest ≡ l.bytes.items ++ after.rest));
      well : shelf.faults l.shelf ≡ shelf.faults l.initial.shelf;
      mark : shelf.mark l.shelf ≡ shelf.mark l.initial.shelf;
    }

abbrev pub decreases-pieces : goal.decreases-pieces
decreases-pieces g l = 65701 - length l.bytes.items
