use Rattle.std.proofs.Common.{◌++◌, ℕ, List, drop, ap, sym, ◌∙◌}
use Rattle.table_texts.specs.Sequences.{item_size, payload_shown}
use Rattle.table_texts.proofs.PayloadLemmas.{payload_none, payload_step, step_put, some_left}
use Rattle.table_texts.proofs.sequences_shown.show_sequence.Goals as goal

pub items-preserved : goal.items-preserved
items-preserved c =
    let cs = c.args.form.now.commands.now in
    let fs = c.args.form.now.fields.now in
    let size = c.args.form.now.size in
    let left = some_left c.items.rest.now (sym c.is_empty.ensures ∙ c.items-test.true) in
    c.items.invariant
    ∙ ap (λ (xs : List ℕ). c.items.out.items ++ xs) (payload_step cs fs size c.items.rest.now left)
    ∙ step_put c.items.out.items _ c.show_item.new.out.items (payload_shown cs fs size (drop (item_size fs size c.items.rest.now) c.items.rest.now)) c.in_ok-size.ensures.shown
    ∙ ap (λ (n : ℕ). c.show_item.new.out.items ++ payload_shown cs fs size (drop n c.items.rest.now)) (sym c.in_ok-size.ensures.size)
    ∙ ap (λ (xs : List ℕ). c.show_item.new.out.items ++ payload_shown cs fs size xs) (sym c.behind-rest.ensures)

pub returns : goal.returns
returns c =
    let cs = c.args.form.now.commands.now in
    let none = payload_none cs c.args.form.now.fields.now c.args.form.now.size c.items.rest.now (sym c.is_empty.ensures ∙ c.items-test.false) in
    c.in_ok-extend_from_slice.ensures.items ∙ ap (λ (xs : List ℕ). c.items.out.items ++ xs) (sym none) ∙ sym c.items.invariant
