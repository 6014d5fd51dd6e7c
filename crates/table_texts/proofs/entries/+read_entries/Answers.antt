use Rattle.table_texts.proofs.EntryLemmas.{missing_gives, end_gives, then_gives, refused_gives}
use Rattle.table_texts.proofs.entries.+read_entries.Goals as goal

pub returns-in_default : goal.returns-in_default
returns-in_default t c = missing_gives c.args.form.now.epoch c.args.form.now.commands.now c.args.form.now.layout c.args.place c.args.line _ c.args.out.now.items c.args.out.now.items _ c.in_default.ensures.line c.text_fault.ensures

pub returns-in-Some-behind_end : goal.returns-in-Some-behind_end
returns-in-Some-behind_end t c =
    end_gives c.args.form.now.epoch c.args.form.now.commands.now c.args.form.now.layout c.args.place c.args.line _ _ _ _ _ c.args.out.now.items _ c.end_entries.result c.in-Some.ensures.line c.in-Some-behind_end.ensures.0 c.in-Some-behind_end.ensures.1 c.end_entries.ensures

pub returns-in-Ok : goal.returns-in-Ok
returns-in-Ok t c =
    then_gives c.args.form.now.epoch c.args.form.now.commands.now c.args.form.now.layout c.args.place c.args.line _ _ _ _ _ c.args.out.now.items c.read_entry.new.out.items _ c.read_entries.result c.in-Some.ensures.line c.in_default-behind_end.ensures c.in-Ok.ensures.said c.read_entries.ensures

pub returns-in-Err : goal.returns-in-Err
returns-in-Err t c =
    rw c.error_on.ensures (refused_gives c.args.form.now.epoch c.args.form.now.commands.now c.args.form.now.layout c.args.place c.args.line _ _ _ _ c.args.out.now.items c.read_entry.new.out.items c.in-Err.error c.in-Some.ensures.line c.in_default-behind_end.ensures c.in-Err.ensures.said)
