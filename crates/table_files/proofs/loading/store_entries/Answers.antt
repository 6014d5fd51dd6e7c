use Rattle.std.proofs.Common.{arith, ℕ, ◌≡◌, ◌<◌, ◌≤◌, length, map, sym, ap, ◌∙◌}
use Rattle.std.proofs.lemmas.List.{length-set, take_more_set, take_all}
use Rattle.std.proofs.lemmas.List.FromFn.{map-range_with_len_more}
use Rattle.std.specs.List.{range_with_len}
use Rattle.table_files.specs.Entries.{entries_in}
use Rattle.table_files.proofs.loading.store_entries.Goals as goal

pub loop-i-preserved : goal.loop-i-preserved
loop-i-preserved g c =
    let room : c.loop-i.i < length c.loop-i.places = omega (arith, c.loop-i.invariant.whole) in
    record {
      whole = length-set c.loop-i.places c.loop-i.i c.read.result ∙ c.loop-i.invariant.whole;
      read = take_more_set c.loop-i.places c.loop-i.i c.read.result room
          ∙ rw (c.loop-i.invariant.read, c.read.ensures) (sym (map-range_with_len_more (g.E.Entry.entry_at c.args.payload.now) 0 c.loop-i.i c.loop-i.i (omega arith)));
    }

pub returns-clause-entries : goal.returns-clause-entries
unfolding entries_in
returns-clause-entries g c =
    let all : c.loop-i.i ≡ g.E.Entry.ENTRIES = omega arith in
    let whole : length c.loop-i.places ≤ c.loop-i.i = omega (arith, c.loop-i.invariant.whole) in
    sym (take_all c.loop-i.i c.loop-i.places whole) ∙ c.loop-i.invariant.read ∙ ap (λ (n : ℕ). map (g.E.Entry.entry_at c.args.payload.now) (range_with_len 0 n)) all
