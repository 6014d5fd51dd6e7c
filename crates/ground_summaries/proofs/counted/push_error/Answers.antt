use Rattle.std.proofs.Common.{rules, ◌++◌, ◌∙◌, ℕ, ap}
use Rattle.std.specs.Prelude.{codes, decimal}
use Rattle.packet_forms.specs.Names.{name_text}
use Rattle.ground_summaries.proofs.UnwantedLemmas.{error_told, appended}
use Rattle.ground_summaries.proofs.counted.push_error.Goals as goal

pub returns : goal.returns
returns c =
    error_told c.extend_from_slice-2.result c.events.result.now (name_text c.args.application.now) c.text.result.now c.as_bytes.result.now c.args.out.now.items c.show_event.new.out.items c.extend_from_slice.new.self.items
    c.push_number.new.out.items c.extend_from_slice-2.new.self.items c.args.number c.events.ensures.listed c.as_bytes.ensures.value c.text.ensures.value
    c.in_ok-show_event.ensures c.in_ok-extend_from_slice.ensures.items
    (c.in_ok-push_number.ensures ∙ ap (λ (n : ℕ). c.extend_from_slice.new.self.items ++ decimal n) (search rules))
    (appended c.extend_from_slice-2.result c.extend_from_slice-2.new.self.items c.push_number.new.out.items (codes ")") c.extend_from_slice-2.ensures.items)
