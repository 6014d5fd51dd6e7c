use Rattle.std.proofs.Common.{◌≡◌, ◌<◌, [], length, take, IsTrue}
use Rattle.fsw_outside.specs.Told.{WhereTold}
use Rattle.rehearsal.specs.Files.{AsksFor, AreTaken}
use Rattle.rehearsal.proofs.files.take_files.Given as goal

-- the FILEs so far were asked for, taken and read to their ends, and no fault came
abbrev pub invariant-files : goal.invariant-files
invariant-files g l =
    let shelf = g.S.Shelf in
    record {
      count : length l.files ≡ l.place;
      taken : WhereTold (shelf.told l.initial.shelf) (shelf.told l.shelf) (λ before after. AsksFor l.names (length l.files) before after
          × AreTaken before.files (take (length l.files) l.names) l.files × (0 < l.place → after.rest ≡ []));
      well : shelf.faults l.shelf ≡ shelf.faults l.initial.shelf;
      opened : 0 < l.place → IsTrue (shelf.is_open l.shelf);
      mark : 0 < l.place → shelf.mark l.shelf ≡ shelf.faults l.initial.shelf;
      unasked : l.place ≡ 0 → l.shelf ≡ l.initial.shelf;
    }
