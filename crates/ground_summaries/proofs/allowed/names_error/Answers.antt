use Rattle.std.proofs.Common.{◌∙◌, List, ℕ, Some, None, ap, refl, sym}
use Rattle.packet_forms.specs.Names.{name_text}
use Rattle.events.specs.Events.{event_row}
use Rattle.ground_summaries.proofs.UnwantedLemmas.{all_named, number_named, event_named, one_named}
use Rattle.ground_summaries.proofs.allowed.names_error.Goals as goal

pub returns-then-is_pair : goal.returns-then-is_pair
returns-then-is_pair c = all_named c.args.text.now (name_text c.args.application.now) c.text-application.result.now c.args.number c.text-application.ensures.value c.if-is_pair.ensures

pub returns-then-is_pair-2 : goal.returns-then-is_pair-2
returns-then-is_pair-2 c =
    number_named c.args.text.now (name_text c.args.application.now) c.text-application.result.now c.format.result.now c.args.number c.text-application.ensures.value c.format.ensures.text c.if-is_pair-2.ensures

pub returns-in-Some : goal.returns-in-Some
returns-in-Some c =
    event_named c.args.text.now (name_text c.args.application.now) c.text-application.result.now c.format.result.now c.args.number c.events.result.now (Some c.in-Some.event) c.is_pair-in-Some.result
    c.text-application.ensures.value c.format.ensures.text c.events.ensures.listed
    (sym c.in-Some.is ∙ c.find_event.ensures ∙ ap (λ (xs : List ℕ). event_row c.events.result.now xs c.args.number 3) c.as_bytes.ensures.value)
    c.if-is_pair.ensures c.if-is_pair-2.ensures (c.is_pair-in-Some.ensures ∙ one_named _)

pub returns-in-None : goal.returns-in-None
returns-in-None c =
    event_named c.args.text.now (name_text c.args.application.now) c.text-application.result.now c.format.result.now c.args.number c.events.result.now None _
    c.text-application.ensures.value c.format.ensures.text c.events.ensures.listed
    (sym c.in-None.is ∙ c.find_event.ensures ∙ ap (λ (xs : List ℕ). event_row c.events.result.now xs c.args.number 3) c.as_bytes.ensures.value)
    c.if-is_pair.ensures c.if-is_pair-2.ensures refl
