use Rattle.std.proofs.Common.{not, rules}
use Rattle.std.proofs.lemmas.Fn.{filter_same}
use Rattle.subjects.specs.declared.seat.Seat.{Seat}
use Rattle.subjects.specs.Crowds.{is_named}
use Rattle.subjects.proofs.crowd.keep_others.Goals as goal

pub returns-clause-left : goal.returns-clause-left
returns-clause-left g c =
    filter_same _ (λ (s : Seat g.row.S.Denot). not (is_named c.args.name.now (g.S.Subject.seen s.subject))) _ (λ x b after call. search rules) _ _ c.retain.ensures.filtered
