use Rattle.std.proofs.Common.{◌≡◌, ℕ, length, drop, sym, rules, arith}
use Rattle.sc_tables.specs.Relative.{relative_at}
use Rattle.sc_tables.specs.Sequences.{relative_commands}
use Rattle.sc_tables.proofs.Indexed.{length_in}
use Rattle.sc_tables.proofs.rts.Rts.len.Goals as goal

pub returns-clause-count : goal.returns-clause-count
unfolding relative_commands
returns-clause-count c =
    let rts = c.args.self.now in
    let few = rts.few in
    let whole : length rts.places ≡ 204 = search rules in
    sym (length_in (λ (at : ℕ). relative_at (drop at rts.payload.now)) rts.places rts.count (omega arith))
