use Rattle.std.proofs.Common.{◌≡◌, ℕ, ◌*◌, ◌≤◌, length, arith}
use Rattle.table_files.specs.Files.{loads_of}
use Rattle.memory_window.specs.Landing.{landed}
use Rattle.memory_window.proofs.BankLanding.{before-landed, behind-landed, none-landed, part-alone, span_here}
use Rattle.memory_window.proofs.banks.land_region.Goals as goal

pub returns-then-from-to : goal.returns-then-from-to
returns-then-from-to g c =
    let from : ℕ = c.busy_banks-from.result.0 in
    let busy = c.busy_banks-from.ensures in
    let none : from ≡ c.busy_banks-from.result.1 = omega arith in
    let span = span_here c.args.at c.from-start.result c.args.bytes.now c.span_of-span.result.first c.span_of-span.result.end c.args.landing.now.ops.now (omega arith) c.span_of-span.ensures in
    none-landed (loads_of c.args.landing.now.files.now) c.args.landing.now.ops.now c.args.at c.span_of-span.result.first c.span_of-span.result.end c.args.bytes.now span (from * 65536) busy.before
    (λ k lt late. busy.behind k lt (omega (arith, none, late)))

pub returns : goal.returns
returns g c =
    let loads = loads_of c.args.landing.now.files.now in
    let ops = c.args.landing.now.ops.now in
    let from : ℕ = c.busy_banks-from.result.0 in
    let high : ℕ = c.min-high.result in
    let at : ℕ = c.args.at in
    let busy = c.busy_banks-from.ensures in
    let bytes = c.args.bytes.now in
    let span = span_here at c.from-start.result bytes c.span_of-span.result.first c.span_of-span.result.end ops (omega arith) c.span_of-span.ensures in
    let order : from * 65536 ≤ high = omega arith in
    let fits : high ≤ length bytes = omega arith in
    part-alone (landed loads ops) at (from * 65536) high bytes c.land_beside.new.bytes order fits c.land_beside.auto.bytes c.land_beside.ensures
    (λ k early. before-landed loads ops at c.span_of-span.result.first c.span_of-span.result.end bytes span k (omega (arith, early, order, fits)) (busy.before k early))
    (λ k lt late. behind-landed loads ops at c.span_of-span.result.first c.span_of-span.result.end bytes span k lt (busy.behind k lt (omega (arith, lt, late))))
