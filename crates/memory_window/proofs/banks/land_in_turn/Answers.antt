use Rattle.std.proofs.Common.{◌*◌, ◌≤◌, length, arith}
use Rattle.table_files.specs.Files.{loads_of}
use Rattle.memory_window.specs.Landing.{landed}
use Rattle.memory_window.proofs.BankLanding.{part-turn}
use Rattle.memory_window.proofs.banks.land_in_turn.Goals as goal

pub loop-bank-preserved : goal.loop-bank-preserved
loop-bank-preserved g c =
    let order : c.loop-bank.bank * 65536 ≤ c.min-to.result = omega arith in
    let fits : c.min-to.result ≤ length c.loop-bank.bytes = omega arith in
    let turn = part-turn (landed (loads_of c.args.landing.now.files.now) c.args.landing.now.ops.now) c.args.at (c.loop-bank.bank * 65536) c.min-to.result c.loop-bank.bytes c.bank_land.new.bank order fits
    c.bank_land.auto.bank c.bank_land.ensures c.args.bytes.now c.loop-bank.invariant in
    λ k lt. ((λ early. (turn k lt).0 (omega (arith, lt, early))), λ late. (turn k lt).1 (omega (arith, lt, late)))
