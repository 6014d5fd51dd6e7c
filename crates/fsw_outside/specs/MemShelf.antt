-- What a shelf over memory tells.
use Rattle.std.specs.Prelude.{ℕ, Bool, List, Option, Some, None, is_some, if◌then◌else◌, ◌&&◌}
use Rattle.fsw_outside.specs.Files.{Content}
use Rattle.fsw_outside.specs.Memory.{can_rise, content_with}
use Rattle.fsw_outside.specs.declared.mem_shelf.MemShelf.{MemShelf}

-- The files, the rest of the open one and the last opening.
abbrev pub content_of : MemShelf → Content
content_of shelf = content_with shelf.files.items shelf.reading shelf.openings shelf.last

-- What the shelf tells: nothing once a count of it has come to its end.
abbrev pub told_content : MemShelf → Option Content
told_content shelf = if can_rise shelf.faults && can_rise shelf.openings then Some (content_of shelf) else None

-- Whether a file is open.
abbrev pub has_open_file : MemShelf → Bool
has_open_file shelf = is_some shelf.reading

-- The numbers of the calls that fail.
abbrev pub failing_calls : MemShelf → List ℕ
failing_calls shelf = shelf.fails.items

-- How many calls there were, which is the number of the next one.
abbrev pub call_count : MemShelf → ℕ
call_count shelf = shelf.calls

-- How often the shelf has failed.
abbrev pub fault_count : MemShelf → ℕ
fault_count shelf = shelf.faults

-- What that count was as the last opening began.
abbrev pub marked_faults : MemShelf → ℕ
marked_faults shelf = shelf.mark

-- How many bytes a call hands out at most.
abbrev pub most_bytes : MemShelf → ℕ
most_bytes shelf = shelf.most
