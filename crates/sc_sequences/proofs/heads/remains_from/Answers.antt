use Rattle.std.proofs.Common.{◌∙◌, ap}
use Rattle.std.specs.Prelude.{nat_lt}
use Rattle.sc_tables.specs.Commands.{commands_in}
use Rattle.sc_sequences.specs.Sequences.{has_some}
use Rattle.sc_sequences.proofs.Nexts.{left_is}
use Rattle.sc_sequences.proofs.heads.remains_from.Goals as goal

pub returns : goal.returns
returns c = ap (nat_lt c.first_from.result) c.len.ensures.count ∙ left_is (commands_in c.args.tables.now c.args.place) c.first_from.result ∙ ap has_some c.first_from.ensures.left
