use Rattle.std.proofs.Common.{◌<◌, ℕ, IfSome, set, sym, subst, ◌∙◌}
use Rattle.std.proofs.lemmas.List.{length-set, length-map}
use Rattle.sc_sequences.specs.Cursors.{next_times}
use Rattle.sc_sequences.specs.declared.cursors.Cursor.{Cursor}
use Rattle.sc_sequences.proofs.Keys.{cursor_small, cursor_lowest}
use Rattle.sc_sequences.proofs.cursors.Cursors.set.Goals as goal

pub invariant_of-self : goal.invariant_of-self
invariant_of-self c =
    let all = c.self.inside.all in
    let place = c.args.place in
    let cursor = c.of.result in
    let changed = set all place cursor in
    let stood = c.self.invariant in
    let whole = length-set all place cursor ∙ stood.0 in
    let small = cursor_small all place cursor c.requires.place stood.0 (subst (λ (k : Cursor). IfSome k.next (λ (time : ℕ). time < 8589934592)) (sym c.of.ensures) c.requires.time) stood.1 in
    let lowest = cursor_lowest all place cursor c.self.inside.lowest c.lowest_in.result c.requires.place stood.2 c.lowest_in.ensures in
    (whole, small, lowest, c.soonest-self-inside.ensures (next_times changed) (length-map changed (λ (k : Cursor). k.next) ∙ whole) small lowest)
