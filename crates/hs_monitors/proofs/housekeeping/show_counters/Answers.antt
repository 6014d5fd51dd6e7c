use Rattle.std.proofs.Common.{◌<◌, ◌∙◌, ◌++◌, ℕ, List, length, ap, arith, length-append}
use Rattle.std.proofs.lemmas.List.{get_or_default}
use Rattle.packet_forms.specs.Numbers.{be32_bytes}
use Rattle.hs_tables.specs.Counters.{blank_row}
use Rattle.hs_monitors.specs.Housekeeping.{count_at}
use Rattle.hs_monitors.proofs.Showing.{counters_more}
use Rattle.hs_monitors.proofs.housekeeping.show_counters.Goals as goal

pub loop-place-preserved : goal.loop-place-preserved
unfolding be32_bytes
loop-place-preserved c =
    let rows = c.args.names.now in
    let place = c.loop-place.place in
    let before = c.loop-place.payload in
    let within : place < length rows = omega arith in
    let grown = ap length c.append.ensures in
    let four = ap length c.to_be_bytes.ensures in
    let both = length-append before c.to_be_bytes.result in
    record {
      size = omega arith;
      bytes =
          counters_more c.args.counters.now rows place (count_at rows place) c.args.payload.now before c.append.new.self within (get_or_default rows place blank_row (count_at rows place) within) c.loop-place.invariant.bytes
          (c.append.ensures ∙ ap (λ (bytes : List ℕ). before ++ bytes) (c.to_be_bytes.ensures ∙ ap be32_bytes c.shown_in-shown.ensures));
    }
