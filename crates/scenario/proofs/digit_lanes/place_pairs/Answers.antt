use Rattle.std.proofs.Common.{◌*◌, ◌≤◌, ◌∙◌, ℕ, Some, None, Bool, if◌then◌else◌, length, take, drop, sym, ap, arith, w8}
use Rattle.std.proofs.lemmas.Simd.{length-chunk, chunk-fits}
use Rattle.scenario.specs.DigitPairs.{joined_pairs}
use Rattle.scenario.proofs.LaneLemmas.{hex_by_lanes, front_placed, middle_placed}
use Rattle.scenario.proofs.digit_lanes.place_pairs.Goals as goal

pub returns-then-not-are_values-clause-read : goal.returns-then-not-are_values-clause-read
returns-then-not-are_values-clause-read c =
    let word = c.args.word.now in
    let from : ℕ = 2 * c.args.at in
    hex_by_lanes (take 16 (drop from word)) c.values_of-values.result (length-chunk from 16 word c.requires.digits) (chunk-fits w8 from 16 word c.type_inv.word) c.values_of-values.ensures.value
    ∙ ap (λ (t : Bool). if t then Some (joined_pairs c.values_of-values.result) else None) (sym c.are_values.ensures ∙ c.if-not-are_values.true)

pub returns-clause-read : goal.returns-clause-read
returns-clause-read c =
    let word = c.args.word.now in
    let from : ℕ = 2 * c.args.at in
    let within : c.args.at ≤ length c.args.places.now = omega arith in
    hex_by_lanes (take 16 (drop from word)) c.values_of-values.result (length-chunk from 16 word c.requires.digits) (chunk-fits w8 from 16 word c.type_inv.word) c.values_of-values.ensures.value
    ∙ ap (λ (t : Bool). if t then Some (joined_pairs c.values_of-values.result) else None) (sym c.are_values.ensures ∙ c.if-not-are_values.false)
    ∙ ap Some (sym (middle_placed c.args.at c.args.places.now c.place_lanes.new.places c.joined_pairs.result _ within c.joined_pairs.ensures.lanes c.place_lanes.ensures ∙ c.joined_pairs.ensures.value))

pub returns-clause-kept : goal.returns-clause-kept
returns-clause-kept c = front_placed c.args.at c.args.places.now c.place_lanes.new.places c.joined_pairs.result _ (omega arith) c.place_lanes.ensures
