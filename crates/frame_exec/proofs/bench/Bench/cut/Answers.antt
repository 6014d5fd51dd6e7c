use Rattle.std.proofs.Common.{◌≡◌, true}
use Rattle.std.proofs.Math.Bool.{Bool-set}
use Rattle.std.proofs.Math.Nat.{ℕ_set}
use Rattle.frame_exec.specs.declared.applications.TheConstants.{EVENTS_ROOM}
use Rattle.frame_exec.specs.declared.bench.Bench.{Bench}
use Rattle.app_suite.specs.Jobs.{jobs_of}
use Rattle.frame_exec.proofs.bench.Bench.cut.Goals as goal

-- each room is known in one way, and so are the number of jobs and whether LC is there
same_facts : (b : Bench) (jobs also_jobs : b.apps.crew.jobs ≡ jobs_of b.wires.bus.watched) (there also_there : b.apps.lc.there ≡ b.wires.bus.watched) (told also_told : b.apps.activations.room ≡ EVENTS_ROOM)
    → ◌≡◌ {A = Bench} (record b { failed = true; manned = jobs; there = there; activations_room = told }) (record b { failed = true; manned = also_jobs; there = also_there; activations_room = also_told })
same_facts b jobs also_jobs there also_there told also_told = λ i. record b {
  failed = true;
  manned = ℕ_set b.apps.crew.jobs (jobs_of b.wires.bus.watched) jobs also_jobs i;
  there = Bool-set b.apps.lc.there b.wires.bus.watched there also_there i;
  activations_room = ℕ_set b.apps.activations.room EVENTS_ROOM told also_told i;
}

pub returns-clause-cut : goal.returns-clause-cut
returns-clause-cut c = same_facts c.args.self.now _ _ _ _ _ _
