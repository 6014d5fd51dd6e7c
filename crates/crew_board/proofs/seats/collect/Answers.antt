use Rattle.std.proofs.Common.{◌≡◌, ℕ, ◌<◌, ◌≢◌, List, [], length, get_or, sym, ap, ◌∙◌, subst, arith, length-set}
use Rattle.std.proofs.lemmas.List.{get_or-set_other, length-map}
use Rattle.std.proofs.lemmas.List.Elements.{All-set}
use Rattle.crew_board.specs.declared.board.View.{View}
use Rattle.crew_board.specs.declared.row.Row.{Row}
use Rattle.crew_board.specs.Rows.{IsWorked, HasEnded, draws_of}
use Rattle.crew_board.proofs.Ends.{ends_more}
use Rattle.crew_board.proofs.Rows.{draws_at, draws_same, first_set}
use Rattle.crew_board.proofs.seats.collect.Goals as goal

pub loop-row-preserved : goal.loop-row-preserved
loop-row-preserved g c =
    let inv = c.loop-row.invariant in
    let rows = c.loop-row.rows in
    let chosen = c.args.chosen.now in
    let i : ℕ = c.loop-row.row-index in
    let d = c.row-item.result in
    let numbers : List ℕ = (get_or rows i d).drawn.items in
    let new = c.collect_one.new.row in
    let call = c.collect_one.ensures in
    let taken = call.taken in
    let inside : i < length rows = omega arith in
    let drawn : get_or (draws_of c.args.rows.now) i [] ≡ numbers =
    ap (λ (ls : List (List ℕ)). get_or ls i []) (sym inv.draws) ∙ draws_at rows i d inside in
    let in_draws : i < length (draws_of c.args.rows.now) =
    (let len = length-map c.args.rows.now (λ (row : Row g.row.S.Denot). row.drawn.items) in let same = inv.len in omega arith) in
    record {
      table = call.first.0 ∙ inv.table;
      slots = call.first.1;
      first = ap (λ (v : View). v.first) taken.is ∙ inv.first;
      split = ap (λ (v : View). v.split) taken.is ∙ inv.split;
      lists = ends_more chosen i (draws_of c.args.rows.now) c.loop-row.first.me.0.lists c.collect_one.new.first.me.0.lists numbers taken.list in_draws drawn taken.ends
          (ap (λ (v : View). v.lists) taken.is) inv.lists;
      len = length-set rows i new ∙ inv.len;
      worked = All-set (IsWorked g.T.Task.leaves c.args.tasks.now) rows i new call.worked inv.worked;
      draws = draws_same rows i d new inside call.drawn ∙ inv.draws;
      scratches = first_set rows i d new inside call.scratches ∙ inv.scratches;
      ended = λ k e later in_rows.
          (let other : k ≢ i = (λ (e : k ≡ i). omega arith) in
          subst (HasEnded c.args.word.now.table_id chosen) (sym (get_or-set_other rows i k new e other)) (inv.ended k e (omega arith) (let len = length-set rows i new in omega arith)));
    }
