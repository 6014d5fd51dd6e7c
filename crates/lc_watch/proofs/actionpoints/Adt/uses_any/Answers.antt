use Rattle.std.proofs.Common.{◌≤◌, ◌<◌, ◌||◌, length, take, Bool, sym, ap, ◌∙◌, arith}
use Rattle.std.specs.List.{list_any}
use Rattle.std.proofs.lemmas.List.{take_all, get_or_default}
use Rattle.histories.proofs.Lasts.{any_push}
use Rattle.histories.proofs.Fronts.{front_more}
use Rattle.lc_watch.specs.Actionpoints.{is_used, uses_any, act_at, blank_row}
use Rattle.lc_watch.proofs.actionpoints.Adt.uses_any.Goals as goal

pub loop-place-preserved : goal.loop-place-preserved
loop-place-preserved c =
    let rows = c.args.self.now in
    let place = c.loop-place.place in
    let within : place < length rows = omega arith in
    ap (λ (t : Bool). t || c.is_used-any.result) c.loop-place.invariant ∙ ap (λ (t : Bool). list_any is_used (take place rows) || t) (c.is_used-any.ensures ∙ ap is_used c.row.ensures.row)
    ∙ sym (ap (list_any is_used) (front_more rows place (act_at rows place) within (get_or_default rows place blank_row (act_at rows place) within)) ∙ any_push is_used (take place rows) (act_at rows place))

pub returns : goal.returns
unfolding uses_any
returns c =
    let past : length c.args.self.now ≤ c.loop-place.place = omega arith in
    c.loop-place.invariant ∙ ap (list_any is_used) (take_all c.loop-place.place c.args.self.now past)
