use Rattle.std.proofs.Common.{rules, ◌≡◌, ◌∙◌}
use Rattle.ground_checks.proofs.FaultLemmas.{without_map, with_map}
use Rattle.ground_checks.proofs.finding.table_faults.Goals as goal

pub returns-in_default : goal.returns-in_default
returns-in_default c =
    let same : c.extend_from_slice.new.self.items ≡ c.args.file.now = search rules in
    rw (c.in_default.is) (without_map c.args.file.now c.extend_from_slice.new.self.items c.in_ok-entries.entries.items c.as_slice.result.now c.in_ok-found.found.items
    same c.requires.headers c.in_ok-entries.ensures.first c.as_slice.ensures.value c.in_ok-found.ensures)

pub returns : goal.returns
returns c =
    let same : c.extend_from_slice.new.self.items ≡ c.args.file.now = search rules in
    rw (c.in-Some.is) (with_map c.in-Some.map.now c.args.file.now c.extend_from_slice.new.self.items c.as_mut_slice.result.now c.in_ok-entries.entries.items c.as_slice.result.now
    c.in_ok-reads.reads.items c.as_slice-2.result.now c.in_ok-found.found.items c.add_reads.new.found.items
    same c.requires.headers c.requires.small c.in_ok-entries.ensures.first c.as_slice.ensures.value c.in_ok-found.ensures
    (λ none. c.as_mut_slice.ensures.value ∙ c.in_ok-entries.ensures.same none) c.in_ok-reads.ensures c.as_slice-2.ensures.value c.in_ok-add_reads.ensures)
