use Rattle.std.proofs.Common.{◌≡◌, ℕ, ◌+◌, ◌-◌, sym, ap, ◌∙◌, arith}
use Rattle.hs_tables.specs.Apps.{entry_of}
use Rattle.hs_monitors.specs.Monitors.{row_at, name_where, name_at}
use Rattle.hs_monitors.proofs.Noting.{noted_unnamed}
use Rattle.hs_monitors.proofs.apps.begin.Goals as goal

pub returns-in-Some-clause-heads : goal.returns-in-Some-clause-heads
returns-in-Some-clause-heads c = λ stood.
    let rows = c.args.apps.now in
    let back : c.args.place + 1 - 1 ≡ c.args.place = omega arith in
    let found = c.entry.ensures.entry ∙ ap (λ (n : ℕ). entry_of (row_at rows n)) back in
    c.note.ensures (name_at rows) (ap name_where (sym found ∙ c.in-Some.is)) stood

pub returns-in-None-clause-heads : goal.returns-in-None-clause-heads
returns-in-None-clause-heads c = λ stood.
    let rows = c.args.apps.now in
    let back : c.args.place + 1 - 1 ≡ c.args.place = omega arith in
    let found = c.entry.ensures.entry ∙ ap (λ (n : ℕ). entry_of (row_at rows n)) back in
    noted_unnamed (name_at rows) c.args.place c.args.heads.now (ap name_where (sym found ∙ c.in-None.is)) stood
