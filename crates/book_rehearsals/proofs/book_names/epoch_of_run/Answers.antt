use Rattle.std.proofs.Common.{sym, ◌∙◌}
use Rattle.book_rehearsals.proofs.BeginningLemmas.{gives_some, tells_epoch}
use Rattle.book_rehearsals.proofs.book_names.epoch_of_run.Goals as goal

pub returns-in-Some-clause-told : goal.returns-in-Some-clause-told
returns-in-Some-clause-told g c = λ before holds.
    tells_epoch c.args.run.now before c.args.run.now.epoch c.as_slice.result.now c.epoch_of.result (sym c.is_some.ensures ∙ c.if-is_some.false)
    (gives_some c.args.run.now before (λ bytes. bytes.items) c.in_ok-front.field-0 c.in-Some.front c.as_slice.result.now c.in-Some.is c.as_slice.ensures.value (c.in_ok-front.ensures.beginning before holds))
    c.epoch_of.ensures
