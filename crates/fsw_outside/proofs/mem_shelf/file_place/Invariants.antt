use Rattle.std.proofs.Common.{◌≡◌, drop}
use Rattle.fsw_outside.specs.Files.{file_named}
use Rattle.fsw_outside.specs.Memory.{stored_files}
use Rattle.fsw_outside.proofs.mem_shelf.file_place.Given as goal

-- no file before this one has the name
abbrev pub invariant-loop-place : goal.invariant-loop-place
invariant-loop-place l = file_named (stored_files l.files) l.name ≡ file_named (stored_files (drop l.place l.files)) l.name
