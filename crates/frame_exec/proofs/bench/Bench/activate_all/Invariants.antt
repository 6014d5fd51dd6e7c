use Rattle.std.proofs.Common.{[], take}
use Rattle.frame_exec.specs.Standing.{IsReady}
use Rattle.frame_exec.specs.Stages.{Activates}
use Rattle.frame_exec.proofs.bench.Bench.activate_all.Given as goal

-- the files so far were named
abbrev pub invariant-files : goal.invariant-files
invariant-files l = record {
  named : Activates (take l.file-index l.files) [] l.fn.self l.self;
  ready : IsReady l.self;
}
