use Rattle.std.proofs.Common.{arith}
use Rattle.std.proofs.lemmas.Grind.{common_steps}
use Rattle.table_texts.proofs.ShownLemmas.{shown_end, shown_more, entry_put}
use Rattle.table_texts.proofs.showing.+show_entries.Goals as goal

pub returns-then-count-eq0 : goal.returns-then-count-eq0
returns-then-count-eq0 t c = rw (shown_end c.args.form.now.commands.now c.args.form.now.layout c.args.count c.args.place c.args.bytes.now c.if-count-eq0.true) (grind (arith, common_steps))

pub returns : goal.returns
returns t c =
    let first = rw c.split_at.ensures.front at c.in_ok-show_entry.ensures in
    let rest = rw c.split_at.ensures.back at c.show_entries.ensures in
    rw (shown_more c.args.form.now.commands.now c.args.form.now.layout c.args.count c.args.place c.args.bytes.now (omega arith)) (entry_put c.args.out.now.items c.show_entry.new.out.items _ _ _ c.show_entries.result first rest)
