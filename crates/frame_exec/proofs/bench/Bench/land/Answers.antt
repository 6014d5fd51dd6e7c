use Rattle.std.proofs.Common.{◌≡◌, length, refl, sym, arith}
use Rattle.std.proofs.lemmas.Bool.Decides.{nat_tests}
use Rattle.std.proofs.lemmas.List.{nil_from_length}
use Rattle.memory_window.proofs.BankLanding.{nothing-landed}
use Rattle.frame_exec.specs.Stages.{loads_in}
use Rattle.frame_exec.proofs.bench.Bench.land.Goals as goal

-- no operation changes no memory
pub returns-then-stays : goal.returns-then-stays
returns-then-stays g c =
    let old = c.args.self.now in
    let none : length old.memory.ops.value ≡ 0 = grind (arith, nat_tests) in
    record {
      epoch = refl;
      number = refl;
      failed = refl;
      tables = refl;
      apps = refl;
      wires = refl;
      lines = refl;
      resets = refl;
      idle = refl;
      memory = sym (nothing-landed (loads_in old) old.memory.ops.value old.memory.ram (nil_from_length old.memory.ops.value none));
    }
