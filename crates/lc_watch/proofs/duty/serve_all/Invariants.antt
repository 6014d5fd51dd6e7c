use Rattle.std.proofs.Common.{◌≡◌, ◌≤◌, ◌+◌, ◌*◌, ◌%◌, ◌++◌, ◌∷◌, [], ℕ, List, true, false, length}
use Rattle.std.specs.List.{AllPass, flat_map}
use Rattle.bus_pipes.specs.Held.{adding}
use Rattle.bus_pipes.specs.Counted.{is_item_counted}
use Rattle.lc_watch.specs.Histories.{Input, setup_of, ordered_at}
use Rattle.lc_watch.specs.Answers.{point_items}
use Rattle.lc_watch.specs.State.{AwaitsEvaluation}
use Rattle.lc_watch.specs.declared.watchpoints.WatchRow.{WatchRow}
use Rattle.lc_watch.proofs.Halves.{Half}
use Rattle.lc_watch.proofs.Serving.{IsAny, IsPoint, fired_below}
use Rattle.lc_watch.proofs.Calming.{IsCalmAt}
use Rattle.lc_watch.proofs.duty.serve_all.Given as goal

-- the actionpoints so far are one wakeup further, and what they gave stands behind the items and is counted
abbrev pub invariant-loop-place : goal.invariant-loop-place
invariant-loop-place l = record {
  long : length l.points ≡ 16;
  few : length l.out.items ≤ length l.fn.out.items + 2 * l.place;
  room : l.out.room ≡ l.fn.out.room;
  calm : l.calm ≡ true → Half IsAny (IsCalmAt l.outcomes l.actions) 16 l.place (record { active = false; failing = 0 }) l.points;
  counted : AllPass is_item_counted l.fn.out.items → AllPass is_item_counted l.out.items;
  points : (watch : List WatchRow) (history : List Input) (input : Input) → AwaitsEvaluation (setup_of watch l.actions) history input l.outcomes l.fn.points
      → Half (IsPoint (setup_of watch l.actions) history (ordered_at (setup_of watch l.actions) input)) (IsPoint (setup_of watch l.actions) (history ++ input ∷ []) []) 16 l.place (record { active = false; failing = 0 }) l.points;
  items : (watch : List WatchRow) (history : List Input) (input : Input) → AwaitsEvaluation (setup_of watch l.actions) history input l.outcomes l.fn.points
      → l.out ≡ adding l.fn.out (flat_map (point_items l.now l.actions) (fired_below (setup_of watch l.actions) history input l.place));
  fired : (watch : List WatchRow) (history : List Input) (input : Input) (count : ℕ) → AwaitsEvaluation (setup_of watch l.actions) history input l.outcomes l.fn.points → l.fn.fired ≡ count % 65536
      → l.fired ≡ (count + length (fired_below (setup_of watch l.actions) history input l.place)) % 65536;
}
