use Rattle.std.proofs.Common.{◌∙◌, ap, sym, length}
use Rattle.std.proofs.lemmas.Bool.{eqb-true}
use Rattle.bus_pipes.specs.Held.{Held}
use Rattle.bus_pipes.specs.declared.names.Out.{Out}
use Rattle.std.proofs.lemmas.List.{nil_from_length}
use Rattle.app_suite.proofs.slot.Slot.take_over.Goals as goal

pub returns-then-is_empty-clause-from : goal.returns-then-is_empty-clause-from
returns-then-is_empty-clause-from g c =
    let given = c.give_state.new.self.out.items in
    let none = nil_from_length given (eqb-true (length given) 0 (sym c.is_empty.ensures ∙ c.if-is_empty.true)) in
    (c.result_mut-left.result.now, c.result_mut-left.ensures.value, c.give_state.ensures.state, c.requires.empty ∙ sym none ∙ ap (λ (held : Held Out). held.items) c.give_state.ensures.items)

pub returns-clause-from : goal.returns-clause-from
returns-clause-from g c =
    (c.result_mut-left.result.now, c.result_mut-left.ensures.value, c.give_state.ensures.state, ap (λ (held : Held Out). held.items) (c.swap.ensures.x_after ∙ c.give_state.ensures.items))
