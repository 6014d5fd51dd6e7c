use Rattle.std.proofs.Common.{List, ℕ, bytes_eq, sym, ap, ◌∙◌}
use Rattle.scenario.proofs.BeginLemmas.{tick_begins}
use Rattle.scenario.proofs.sentence.is_tick.Goals as goal

pub returns : goal.returns
returns c = λ is. tick_begins c.args.line.now (sym (c.eq.ensures ∙ ap (λ (word : List ℕ). bytes_eq c.args.line.now word) c.as_slice.ensures) ∙ is)
