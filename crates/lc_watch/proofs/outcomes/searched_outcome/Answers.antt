use Rattle.std.proofs.Common.{◌≡◌, ◌<◌, ◌-◌, ◌+◌, ℕ, drop, sym, ap, ◌∙◌, arith}
use Rattle.std.specs.Prelude.{filter_map}
use Rattle.lc_watch.specs.Outcomes.{reading, reading_in}
use Rattle.lc_watch.proofs.Taking.{outcome_quiet, outcome_last}
use Rattle.lc_watch.proofs.outcomes.searched_outcome.Goals as goal

pub loop-back-init : goal.loop-back-init
loop-back-init c =
    let all : c.args.count - 0 ≡ c.args.count = omega arith in
    ap (λ (from : ℕ). filter_map (reading_in c.args.row.now) (drop from c.args.telemetry.now)) all ∙ c.requires.others

pub returns-then-mid-row : goal.returns-then-mid-row
returns-then-mid-row c = λ seen before.
    let row = c.args.row.now in
    let packets = c.args.telemetry.now in
    let i = c.args.count - 1 - c.loop-back.back in
    let looked : c.loop-back.back < c.args.count = c.loop-back-test.true in
    let few = c.requires.within in
    let behind : c.args.count - c.loop-back.back ≡ i + 1 = omega (arith, looked) in
    c.reading.ensures ∙ ap (reading row) c.bytes.ensures.value
    ∙ outcome_last row seen packets i c.index-telemetry-count.result (omega (arith, looked, few)) c.index-telemetry-count.is (sym c.mid.ensures ∙ c.if-mid-row.true) c.requires.used
    (ap (λ (from : ℕ). filter_map (reading_in row) (drop from packets)) (sym behind) ∙ c.loop-back.invariant)

pub returns : goal.returns
returns c = λ seen before.
    let row = c.args.row.now in
    let packets = c.args.telemetry.now in
    let all : c.args.count - c.loop-back.back ≡ 0 = let past = c.loop-back-test.false in omega (arith, past) in
    before ∙ outcome_quiet row seen packets (ap (λ (from : ℕ). filter_map (reading_in row) (drop from packets)) (sym all) ∙ c.loop-back.invariant)
