use Rattle.std.proofs.Common.{◌≡◌, ℕ, ◌+◌, ◌-◌, sym, ap, ◌∙◌, arith}
use Rattle.hs_tables.specs.Apps.{entry_of}
use Rattle.hs_monitors.specs.Monitors.{row_at}
use Rattle.hs_monitors.proofs.Showing.{shown_used, shown_unused}
use Rattle.hs_monitors.proofs.housekeeping.is_watching.Goals as goal

pub returns-in-Some : goal.returns-in-Some
returns-in-Some c = λ checks stood.
    let back : c.args.place + 1 - 1 ≡ c.args.place = omega arith in
    let found = c.entry.ensures.entry ∙ ap (λ (n : ℕ). entry_of (row_at c.args.apps.now n)) back in
    shown_used (row_at c.args.apps.now c.args.place) c.entry.result c.in-Some.field-0 checks c.args.watched found c.in-Some.is c.in-Some.ensures.able.0 (stood c.in-Some.field-0 (sym found ∙ c.in-Some.is))

pub returns-in-None : goal.returns-in-None
returns-in-None c = λ checks stood.
    let back : c.args.place + 1 - 1 ≡ c.args.place = omega arith in
    let found = c.entry.ensures.entry ∙ ap (λ (n : ℕ). entry_of (row_at c.args.apps.now n)) back in
    shown_unused (row_at c.args.apps.now c.args.place) c.entry.result checks found c.in-None.is
