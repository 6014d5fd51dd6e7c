use Rattle.std.proofs.Common.{List, ◌+◌, map, set, sym, ap, ◌∙◌}
use Rattle.sc_tables.specs.declared.relative.Relative.{Relative}
use Rattle.sc_tables.specs.Grammar.{entries_in}
use Rattle.sc_tables.specs.Relative.{rts_of}
use Rattle.sc_tables.specs.Commands.{of_relative}
use Rattle.sc_tables.proofs.tables.ScTables.store_rts.Goals as goal

pub returns : goal.returns
unfolding rts_of
returns c = c.put_rts.ensures ∙ ap (λ (commands : List Relative). set c.args.self.now (c.args.n + 1) (map of_relative commands)) (c.of.ensures ∙ sym (ap entries_in c.store_relative_places-count.ensures.stored))
