use Rattle.std.proofs.Common.{◌≡◌, suc, drop}
use Rattle.std.specs.Prelude.{filter}
use Rattle.table_files.specs.Headers.{is_load}
use Rattle.table_files.specs.Files.{nth}
use Rattle.table_files.proofs.files.nth_load.Given as goal

-- the n-th load file is, from this file on, the one with so many load files before it
abbrev pub invariant-loop-file : goal.invariant-loop-file
invariant-loop-file l = nth (filter is_load l.files) l.n ≡ nth (filter is_load (drop l.file-index l.files)) (suc l.before)
