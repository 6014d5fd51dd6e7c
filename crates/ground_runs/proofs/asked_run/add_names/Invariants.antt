use Rattle.std.proofs.Common.{◌≡◌, ◌++◌, take}
use Rattle.ground_runs.specs.AskedWords.{opened_names}
use Rattle.ground_runs.proofs.asked_run.add_names.Given as goal

abbrev pub invariant-loop-file : goal.invariant-loop-file
invariant-loop-file l = l.words ≡ l.fn.words ++ opened_names (take l.file-index l.files)
