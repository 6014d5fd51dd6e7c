use Rattle.std.proofs.Common.{◌≡◌, ℕ, ◌<◌, List, get_or, length, sym, ap, ◌∙◌, subst, arith, rules}
use Rattle.std.proofs.lemmas.List.{length-map}
use Rattle.atomic_table.specs.Table.{Seen}
use Rattle.crew_board.specs.declared.row.Row.{Row}
use Rattle.crew_board.specs.Claim.{times_in}
use Rattle.crew_board.specs.Board.{Keeps}
use Rattle.crew_board.specs.Rows.{draws_of}
use Rattle.crew_board.proofs.Ends.{closed_once}
use Rattle.crew_board.proofs.claim.draw_together.Goals as goal

pub returns-clause-shared : goal.returns-clause-shared
returns-clause-shared g c = λ _.
    let chosen = c.args.chosen.now in
    let key : c.in-Ok.board.shared.key ≡ length chosen = search rules in
    let rows = c.draw_all.new.rows in
    let draws = draws_of rows in
    let first = c.collect.new.first in
    let final = c.close_with-closed.ensures.values.2 in
    let seen = subst (λ (n : ℕ). Seen {S = ℕ} (Keeps n) first.id first.me.0 final.0) key final.1 in
    let left = c.collect.ensures.first in
    let count = length-map rows (λ (row : Row g.row.S.Denot). row.drawn.items) in
    let some_ : 0 < length draws = (let a = c.draw_all.ensures.len in let b = c.deal.ensures.len in let w = c.requires.workers.0 in omega arith) in
    let once = closed_once chosen first.id first.me.0 final.0 draws c.requires.chosen.1.0 seen left.1 (left.2 ∙ sym count) some_ c.collect.ensures.lists in
    record {
      worked = c.collect.ensures.worked;
      once = λ job. ap (times_in job) c.collect.ensures.draws ∙ once job;
    }

pub returns-clause-others : goal.returns-clause-others
returns-clause-others g c = λ job s none.
    ap (λ (l : List g.row.S.Denot). get_or l job s) c.collect.ensures.scratches ∙ c.draw_all.ensures.others job s none ∙ ap (λ (l : List g.row.S.Denot). get_or l job s) c.deal.ensures.scratches
