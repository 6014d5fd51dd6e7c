use Rattle.std.proofs.Common.{sym, ◌∙◌}
use Rattle.table_texts.proofs.SequenceLemmas.{front_ends, missing_gives, then_gives, refused_gives}
use Rattle.table_texts.proofs.fronts.+read_front.Goals as goal

pub returns-then-is_empty : goal.returns-then-is_empty
returns-then-is_empty t c = front_ends c.args.epoch c.args.word c.args.fields.now _ c.args.out.now.items (sym c.is_empty.ensures ∙ c.if-is_empty.true)

pub returns-in_default : goal.returns-in_default
returns-in_default t c = missing_gives c.args.epoch c.args.word c.args.fields.now _ c.args.out.now.items c.args.out.now.items _ (sym c.is_empty.ensures ∙ c.if-is_empty.false) c.in_default.ensures.words c.missing.ensures

pub returns-in-Ok : goal.returns-in-Ok
returns-in-Ok t c =
    then_gives c.args.epoch c.args.word c.args.fields.now _ _ _ _ _ _ c.args.out.now.items c.read_row.new.out.items _ c.read_front.result (sym c.is_empty.ensures ∙ c.if-is_empty.false) c.split_at.ensures.front c.split_at.ensures.back
    c.in-Some.ensures.words c.in-Some.ensures.alone c.in-Ok.ensures c.read_front.ensures

pub returns-in-Err : goal.returns-in-Err
returns-in-Err t c =
    refused_gives c.args.epoch c.args.word c.args.fields.now _ _ _ _ _ c.args.out.now.items c.read_row.new.out.items c.in-Err.error (sym c.is_empty.ensures ∙ c.if-is_empty.false) c.split_at.ensures.front
    c.in-Some.ensures.words c.in-Some.ensures.alone c.in-Err.ensures
