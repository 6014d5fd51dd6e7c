use Rattle.std.proofs.Common.{refl}
use Rattle.subjects.specs.Faults.{plan_fault_of}
use Rattle.subjects.proofs.laws.worked_faults.Goals as goal

pub returns : goal.returns
unfolding plan_fault_of
returns c = record { empty = refl; back = refl; none = refl; numbers = refl }
