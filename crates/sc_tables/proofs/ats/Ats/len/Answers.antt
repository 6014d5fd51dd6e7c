use Rattle.std.proofs.Common.{◌≡◌, length, drop, sym, rules, arith}
use Rattle.sc_tables.specs.declared.absolute.Place.{Place}
use Rattle.sc_tables.specs.Absolute.{timed_at}
use Rattle.sc_tables.specs.Sequences.{timed_commands}
use Rattle.sc_tables.proofs.Indexed.{length_in}
use Rattle.sc_tables.proofs.ats.Ats.len.Goals as goal

pub returns-clause-count : goal.returns-clause-count
unfolding timed_commands
returns-clause-count c =
    let ats = c.args.self.now in
    let few = ats.few in
    let whole : length ats.places ≡ 1000 = search rules in
    sym (length_in (λ (p : Place). timed_at (drop p.at ats.payload.now)) ats.places ats.count (omega arith))

pub returns-clause-in_order : goal.returns-clause-in_order
unfolding timed_commands
returns-clause-in_order c = c.args.self.now.in_order
