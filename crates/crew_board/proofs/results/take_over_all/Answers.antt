use Rattle.std.proofs.Common.{◌≡◌, ℕ, ◌<◌, ◌≤◌, ◌≢◌, ⊎_elim, List, [], length, get_or, sym, ap, ◌∙◌, subst, arith, length-set}
use Rattle.std.proofs.lemmas.Bool.{cases_lt}
use Rattle.std.proofs.lemmas.List.{get_or-set_other, get_or_default, length-map}
use Rattle.std.proofs.lemmas.List.Elements.{All-set}
use Rattle.std.proofs.lemmas.List.Sums.{get_or-le-sum_by}
use Rattle.crew_board.specs.Claim.{times}
use Rattle.crew_board.specs.declared.row.Row.{Row}
use Rattle.crew_board.specs.Work.{AreDone}
use Rattle.crew_board.specs.Rows.{FitsJobs, IsWorked, draws_of}
use Rattle.crew_board.proofs.Rows.{draws_at, draws_same}
use Rattle.crew_board.proofs.results.take_over_all.Goals as goal

pub loop-row-preserved : goal.loop-row-preserved
loop-row-preserved g c =
    let inv = c.loop-row.invariant in
    let rows = c.loop-row.rows in
    let tasks = c.args.tasks.now in
    let i : ℕ = c.loop-row.row-index in
    let d = c.row-item.result in
    let new = c.take_over.new in
    let call = c.take_over.ensures in
    let inside : i < length rows = omega arith in
    let drawn : get_or (draws_of c.args.rows.now) i [] ≡ (get_or rows i d).drawn.items =
    ap (λ (ls : List (List ℕ)). get_or ls i []) (sym inv.draws) ∙ draws_at rows i d inside in
    let AreRight : List ℕ → Type 0 = AreDone g.T.Task.leaves tasks new.first.scratches.items in
    record {
      first = call.fits.0;
      fits = All-set (FitsJobs (length tasks)) rows i new.row call.fits.1 inv.fits;
      len = length-set rows i new.row ∙ inv.len;
      drawn = call.drawn.0 ∙ inv.drawn;
      draws = draws_same rows i d new.row inside call.drawn.1 ∙ inv.draws;
      worked = λ k e later in_rows.
          (let other : k ≢ i = (λ (e : k ≡ i). omega arith) in
          subst (IsWorked g.T.Task.leaves tasks) (sym (get_or-set_other rows i k new.row e other)) (inv.worked k e (omega arith) (let len = length-set rows i new.row in omega arith)));
      done = λ k h.
          ⊎_elim
          (λ (earlier : k < i). λ m in_list. call.kept (get_or (get_or (draws_of c.args.rows.now) k []) m 0) (inv.done k earlier m in_list))
          (λ (here : i ≤ k).
          let e : i ≡ k = omega arith in
          subst (λ (n : ℕ). AreRight (get_or (draws_of c.args.rows.now) n [])) e (subst AreRight (sym drawn) call.done))
          (cases_lt k i);
      others = λ job s none.
          (let in_draws : i < length (draws_of c.args.rows.now) = (let len = length-map c.args.rows.now (λ (row : Row g.row.S.Denot). row.drawn.items) in let same = inv.len in omega arith) in
          let most = get_or-le-sum_by (times job) (draws_of c.args.rows.now) i [] in_draws in
          let here : times job (get_or (draws_of c.args.rows.now) i []) ≡ times job (get_or rows i d).drawn.items = ap (times job) drawn in
          call.others job s (omega arith) ∙ inv.others job s none);
      kept = λ job was. call.kept job (inv.kept job was);
    }

pub returns-clause-done : goal.returns-clause-done
returns-clause-done g c = λ k d h.
    let inv = c.loop-row.invariant in
    let lists = draws_of c.args.rows.now in
    let len = length-map c.args.rows.now (λ (row : Row g.row.S.Denot). row.drawn.items) in
    let same = inv.len in
    let done : k < c.loop-row.row-index = omega arith in
    subst (AreDone g.T.Task.leaves c.args.tasks.now c.loop-row.first.scratches.items) (sym (get_or_default lists k d [] h)) (inv.done k done)
