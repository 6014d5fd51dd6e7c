use Rattle.std.proofs.Common.{arith, ◌∙◌}
use Rattle.table_texts.proofs.SequenceLemmas.{end_gives, error_gives, line_read, none_gives}
use Rattle.table_texts.proofs.sequences.read_sequence.Goals as goal

pub returns-in-Some-behind_end : goal.returns-in-Some-behind_end
returns-in-Some-behind_end c =
    end_gives c.args.form.now.epoch c.args.form.now.commands.now c.args.form.now.fields.now c.lines.number _ _ _ _ _ c.lines.out.items _ c.end_sequence.result c.lines.invariant.said
    c.in-Some.ensures.line c.in-Some-behind_end.ensures.0 c.in-Some-behind_end.ensures.1 (c.end_sequence.ensures c.lines.out.items)

pub returns-in-Err : goal.returns-in-Err
returns-in-Err c =
    rw c.error_on.ensures
    (error_gives c.args.form.now.epoch c.args.form.now.commands.now c.args.form.now.fields.now c.lines.number _ _ _ _ c.lines.out.items c.read_item.new.out.items _ c.in-Err.error c.lines.invariant.said
    c.in-Some.ensures.line c.in_default-behind_end.ensures c.in-Err.ensures)

pub lines-preserved : goal.lines-preserved
lines-preserved c = record {
  said = c.lines.invariant.said ∙ line_read c.args.form.now.epoch c.args.form.now.commands.now c.args.form.now.fields.now c.lines.number _ _ _ _ c.lines.out.items c.read_item.new.out.items c.in-Some.ensures.line c.in_default-behind_end.ensures c.in-Ok.ensures;
  room = omega (arith, c.in-Some.ensures.room, c.lines.invariant.room);
}

pub returns : goal.returns
returns c = none_gives c.args.form.now.epoch c.args.form.now.commands.now c.args.form.now.fields.now c.lines.number _ c.lines.out.items c.lines.out.items _ _ c.lines.invariant.said c.in_default.ensures.line c.text_fault.ensures
