-- What a shelf of files keeps.
use Rattle.std.specs.Prelude.{ℕ, Bool, Option, is_some}
use Rattle.fsw_outside.specs.declared.file_shelf.FileShelf.{FileShelf}

-- The file that is open.
abbrev pub open_file : {F File Dir : Type 0} → FileShelf F File Dir → Option File
open_file shelf = shelf.file

-- Whether there is one.
abbrev pub has_open_file : {F File Dir : Type 0} → FileShelf F File Dir → Bool
has_open_file shelf = is_some shelf.file

-- How often the shelf has failed.
abbrev pub fault_count : {F File Dir : Type 0} → FileShelf F File Dir → ℕ
fault_count shelf = shelf.faults

-- What that count was as the last opening began.
abbrev pub marked_faults : {F File Dir : Type 0} → FileShelf F File Dir → ℕ
marked_faults shelf = shelf.mark
