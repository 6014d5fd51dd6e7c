use Rattle.std.proofs.Common.{◌∙◌, ap, arith, drop, take, ℕ}
use Rattle.row_forms.proofs.RowLemmas.{value_of_row, zeros_of_row, check_of_row, end_shown, value_put, zeros_put, check_put}
use Rattle.row_forms.proofs.rows.+show_row.Goals as goal

pub returns-in_default : goal.returns-in_default
returns-in_default t c = end_shown _ _ _ c.in_default.ensures.cases

pub split_at-requires : goal.split_at-requires
split_at-requires t c =
    let row = value_of_row _ _ _ _ _ _ c.in-Some.ensures.cases c.in-Value.is c.requires in
    omega (arith, c.width.ensures, row.room)

pub push_word-requires : goal.push_word-requires
push_word-requires t c =
    let row = value_of_row _ _ _ _ _ _ c.in-Some.ensures.cases c.in-Value.is c.requires in
    rw (c.split_at.ensures.front, c.width.ensures) row.shows

pub show_row-requires : goal.show_row-requires
show_row-requires t c =
    let row = value_of_row _ _ _ _ _ _ c.in-Some.ensures.cases c.in-Value.is c.requires in
    (omega (arith, c.in-Some.ensures.cases.1), rw (c.split_at.ensures.back, c.width.ensures) row.behind)

pub show_row-requires-in-Zeros : goal.show_row-requires-in-Zeros
show_row-requires-in-Zeros t c =
    let row = zeros_of_row _ _ _ _ _ c.in-Some.ensures.cases c.in-Zeros.is c.requires in
    (omega (arith, c.in-Some.ensures.cases.1), rw c.behind.ensures row.behind)

pub show_row-requires-in-Check : goal.show_row-requires-in-Check
show_row-requires-in-Check t c =
    let row = check_of_row _ _ _ _ c.in-Some.ensures.cases c.in-Check.is c.requires in
    (omega (arith, c.in-Some.ensures.cases.1), rw c.behind-in-Check.ensures row.behind)

pub returns-in_ok-push_word-in-Value : goal.returns-in_ok-push_word-in-Value
returns-in_ok-push_word-in-Value t c =
    value_put _ _ _ _ _ _ _ _ _ _ c.push_word.new.out.items _ c.in-Some.ensures.cases c.in-Value.is
    (c.split_at.ensures.front ∙ ap (λ (n : ℕ). take n c.args.bytes.now) c.width.ensures)
    (c.split_at.ensures.back ∙ ap (λ (n : ℕ). drop n c.args.bytes.now) c.width.ensures)
    c.in_ok-push_word-in-Value.ensures c.show_row.ensures

pub returns-in-Zeros : goal.returns-in-Zeros
returns-in-Zeros t c = zeros_put _ _ _ _ _ _ _ _ _ c.in-Some.ensures.cases c.in-Zeros.is c.behind.ensures c.show_row-in-Zeros.ensures

pub returns-in-Check : goal.returns-in-Check
returns-in-Check t c = check_put _ _ _ _ _ _ _ _ c.in-Some.ensures.cases c.in-Check.is c.behind-in-Check.ensures c.show_row-in-Check.ensures
