use Rattle.std.proofs.Common.{◌≡◌, ◌-◌, ◌+◌, ℕ, drop, sym, ap, ◌∙◌, arith}
use Rattle.std.specs.Prelude.{filter_map}
use Rattle.lc_watch.specs.Outcomes.{reading, reading_in}
use Rattle.lc_watch.proofs.Noting.{none_behind_noted}
use Rattle.lc_watch.proofs.Taking.{outcome_quiet, outcome_last}
use Rattle.lc_watch.proofs.outcomes.last_outcome.Goals as goal

pub returns-then-count-eq0 : goal.returns-then-count-eq0
returns-then-count-eq0 c = λ seen before.
    let row = c.args.row.now in
    let packets = c.args.telemetry.now in
    before ∙ outcome_quiet row seen packets
    (ap (λ (from : ℕ). filter_map (reading_in row) (drop from packets)) (sym c.if-count-eq0.true) ∙ none_behind_noted row c.args.newest.now.before packets c.up_to-count.result c.up_to-count.ensures.newest)

pub returns-then-mid-row : goal.returns-then-mid-row
returns-then-mid-row c = λ seen before.
    let row = c.args.row.now in
    let packets = c.args.telemetry.now in
    let count = c.up_to-count.result in
    let any = c.if-count-eq0.false in
    let few = c.up_to-count.ensures.within in
    let behind : count ≡ count - 1 + 1 = omega (arith, any) in
    c.reading.ensures ∙ ap (reading row) c.bytes.ensures.value
    ∙ outcome_last row seen packets (count - 1) c.index-telemetry-count.result (omega (arith, any, few)) c.index-telemetry-count.is (sym c.mid.ensures ∙ c.if-mid-row.true) c.requires.used
    (ap (λ (from : ℕ). filter_map (reading_in row) (drop from packets)) (sym behind) ∙ none_behind_noted row c.args.newest.now.before packets count c.up_to-count.ensures.newest)

pub searched_outcome-requires-clause-others : goal.searched_outcome-requires-clause-others
searched_outcome-requires-clause-others c = none_behind_noted c.args.row.now c.args.newest.now.before c.args.telemetry.now c.up_to-count.result c.up_to-count.ensures.newest
