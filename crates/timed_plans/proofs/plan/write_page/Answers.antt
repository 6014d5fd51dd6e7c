use Rattle.std.proofs.Common.{List, ◌∷◌, [], ◌++◌, ap, ◌∙◌}
use Rattle.timed_plans.specs.declared.scheduled.ScheduledLine.{ScheduledLine}
use Rattle.timed_plans.specs.Schedules.{held_in}
use Rattle.timed_plans.specs.Pages.{written_on, with_rows, rows_of, end_row, merged}
use Rattle.timed_plans.proofs.SortLemmas.{page_written}
use Rattle.timed_plans.proofs.plan.write_page.Goals as goal

pub returns : goal.returns
returns c = λ s same within.
    let h = c.args.schedule.now in
    let q = written_on c.new-page.result in
    let r = written_on c.put_head.new.self in
    page_written s h c.sort_lines.new.lines.items q r (written_on c.put_frames.new.self) same within c.in_ok-sort_lines.ensures.moved c.in_ok-sort_lines.ensures.stable c.in_ok-sort_lines.ensures.rising
    c.new-page.ensures
    (c.in_ok-put_head.ensures ∙ ap (λ (ls : List ScheduledLine). with_rows q (rows_of (held_in ls))) c.as_slice.ensures.value)
    (c.in_ok-put_frames.ensures ∙ ap (λ (ls : List ScheduledLine). with_rows r (merged 0 h.frames h.last (held_in ls) ++ end_row h.last ∷ [])) c.as_slice-2.ensures.value)
