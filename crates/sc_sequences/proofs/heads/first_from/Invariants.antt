use Rattle.std.proofs.Common.{◌≡◌, drop}
use Rattle.sc_tables.specs.Commands.{commands_in}
use Rattle.sc_sequences.specs.Sequences.{from_time}
use Rattle.sc_sequences.proofs.heads.first_from.Given as goal

-- those so far are too early
abbrev pub invariant-loop-at : goal.invariant-loop-at
invariant-loop-at l = from_time l.time (drop l.from (commands_in l.tables l.place)) ≡ from_time l.time (drop l.at (commands_in l.tables l.place))
