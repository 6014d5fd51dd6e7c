use Rattle.std.proofs.Common.{◌+◌, ◌*◌, ℕ, None, min, sym, ap, ◌∙◌, arith}
use Rattle.std.proofs.lemmas.List.{get_or-map}
use Rattle.sc_sequences.specs.Cursors.{next_times, key_of, lowest_from}
use Rattle.sc_sequences.specs.declared.cursors.Cursor.{Cursor}
use Rattle.sc_sequences.proofs.Keys.{lowest_none, lowest_more}
use Rattle.sc_sequences.proofs.cursors.lowest_in.Goals as goal

pub loop-k-init : goal.loop-k-init
loop-k-init c = sym (lowest_none (next_times c.args.all.now) (6 * c.args.group))

pub loop-k-preserved : goal.loop-k-preserved
loop-k-preserved c =
    let all = c.args.all.now in
    let from = 6 * c.args.group in
    let time = ap (λ (k : Cursor). k.next) c.index-all-place.is ∙ sym (get_or-map (λ (k : Cursor). k.next) all (from + c.loop-k.k) c.index-all-place.result None (omega arith)) in
    c.min-lowest.ensures
    ∙ ap (λ (low : ℕ). min low c.key.result) c.loop-k.invariant
    ∙ ap (min (lowest_from (next_times all) from c.loop-k.k)) (c.key.ensures ∙ ap (key_of (from + c.loop-k.k)) time)
    ∙ sym (lowest_more (next_times all) from c.loop-k.k)
