use Rattle.std.proofs.Common.{arith, ℕ, ◌≡◌, ◌<◌, ◌≤◌, ◌+◌, length, map, sym, ap, ◌∙◌}
use Rattle.std.proofs.lemmas.List.{length-set, take_more_set, take_all}
use Rattle.std.proofs.lemmas.List.FromFn.{map-range_with_len_more, length-map-range_with_len}
use Rattle.std.specs.List.{range_with_len}
use Rattle.table_files.specs.Entries.{entries_in}
use Rattle.table_files.proofs.Entries.{fault_later, fault_here, fault_none}
use Rattle.table_files.proofs.loading.load_entries.Goals as goal

pub returns-in-Some-clause-fault : goal.returns-in-Some-clause-fault
unfolding entries_in
returns-in-Some-clause-fault g c =
    let within : c.loop-i.i < g.E.Entry.ENTRIES = omega arith in
    sym (c.loop-i.invariant.faultless
    ∙ fault_here g.E.Entry.reason_of (g.E.Entry.entry_at c.args.payload.now) g.E.Entry.ENTRIES c.loop-i.i c.in-Some.reason within (rw (← c.read-entry.ensures) (sym c.in-Some.ensures.least)))

pub loop-i-preserved : goal.loop-i-preserved
unfolding entries_in
loop-i-preserved g c =
    let within : c.loop-i.i < g.E.Entry.ENTRIES = omega arith in
    let room : c.loop-i.i < length c.loop-i.entries = omega (arith, c.loop-i.invariant.whole) in
    record {
      whole = length-set c.loop-i.entries c.loop-i.i c.read-entry.result ∙ c.loop-i.invariant.whole;
      read = take_more_set c.loop-i.entries c.loop-i.i c.read-entry.result room
          ∙ rw (c.loop-i.invariant.read, c.read-entry.ensures) (sym (map-range_with_len_more (g.E.Entry.entry_at c.args.payload.now) 0 c.loop-i.i c.loop-i.i (omega arith)));
      faultless = c.loop-i.invariant.faultless ∙ fault_later g.E.Entry.reason_of (g.E.Entry.entry_at c.args.payload.now) g.E.Entry.ENTRIES c.loop-i.i within (rw (← c.read-entry.ensures) (sym c.reason.ensures.least ∙ c.in_default.is));
    }

pub returns-clause-fault : goal.returns-clause-fault
unfolding entries_in
returns-clause-fault g c =
    let past : g.E.Entry.ENTRIES ≤ c.loop-i.i = omega arith in
    sym (c.loop-i.invariant.faultless ∙ fault_none g.E.Entry.reason_of (entries_in g.E.Entry.entry_at g.E.Entry.ENTRIES c.args.payload.now) (c.loop-i.i + 1) c.loop-i.i (omega (arith, length-map-range_with_len (g.E.Entry.entry_at c.args.payload.now) 0 g.E.Entry.ENTRIES)))

pub returns-clause-entries : goal.returns-clause-entries
unfolding entries_in
returns-clause-entries g c = λ none.
    let all : c.loop-i.i ≡ g.E.Entry.ENTRIES = omega arith in
    let whole : length c.loop-i.entries ≤ c.loop-i.i = omega (arith, c.loop-i.invariant.whole) in
    sym (take_all c.loop-i.i c.loop-i.entries whole) ∙ c.loop-i.invariant.read ∙ ap (λ (n : ℕ). map (g.E.Entry.entry_at c.args.payload.now) (range_with_len 0 n)) all
