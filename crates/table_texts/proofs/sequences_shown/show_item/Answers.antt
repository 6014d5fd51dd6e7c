use Rattle.std.proofs.Common.{◌+◌, ℕ, List, length, ap, sym, ◌∙◌, arith}
use Rattle.row_forms.specs.Rows.{is_row}
use Rattle.table_texts.proofs.SequenceLemmas.{front_is}
use Rattle.table_texts.proofs.PayloadLemmas.{command_is, packet_long, item_of_command}
use Rattle.table_texts.proofs.sequences_shown.show_item.Goals as goal

pub show_line-requires-clause-row : goal.show_line-requires-clause-row
show_line-requires-clause-row c =
    let is = command_is _ _ _ c.in-Some.ensures.packet.0 in
    ap (is_row c.args.form.now.fields.now) c.front.ensures ∙ is.row

pub returns-in_ok-show_line-in-Some-clause-size : goal.returns-in_ok-show_line-in-Some-clause-size
returns-in_ok-show_line-in-Some-clause-size c =
    let is = command_is _ _ _ c.in-Some.ensures.packet.0 in
    let long = ap (λ (xs : List ℕ). length xs) (c.bytes.ensures.value ∙ c.in-Some.ensures.packet.1) ∙ packet_long c.args.form.now.size c.args.bytes.now is.inside in
    ap (λ (n : ℕ). c.args.form.now.size + n) long ∙ sym (item_of_command _ _ _ c.in-Some.ensures.packet.0)

pub packet_at-requires : goal.packet_at-requires
packet_at-requires c = let is = front_is _ _ c.requires.front in omega (arith, is.small)
