use Rattle.std.proofs.Common.{ℕ, List, sym, subst}
use Rattle.table_files.specs.Files.{loads_of}
use Rattle.app_suite.specs.Landable.{CanLand}
use Rattle.frame_exec.proofs.bench.Bench.land_all.Goals as goal

pub land-requires-clause-can_land : goal.land-requires-clause-can_land
land-requires-clause-can_land g c = λ _ _. subst (λ (files : List (List ℕ)). CanLand (loads_of files) c.args.self.now.memory.ram c.args.self.now.memory.ops.value) (sym c.files.ensures) c.requires.can_land
