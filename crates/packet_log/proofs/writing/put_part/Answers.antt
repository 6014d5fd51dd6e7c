use Rattle.std.proofs.Common.{◌≡◌, ◌≤◌, ◌++◌, ◌-◌, List, ℕ, length, take, ap, ◌∙◌, arith, length-drop}
use Rattle.fsw_outside.specs.TellingLaws.{told_then}
use Rattle.fsw_outside.specs.PieceLaws.{grown}
use Rattle.packet_log.proofs.writing.put_part.Goals as goal

pub pieces-preserved : goal.pieces-preserved
pieces-preserved g c = record {
  within =
      let size : length c.behind.result.now ≡ length c.args.bytes.now - c.pieces.taken = ap length c.behind.ensures ∙ length-drop c.pieces.taken c.args.bytes.now in
      let few : c.in-Ok.count ≤ length c.behind.result.now = c.in-Ok.ensures.count.1 in
      let within = c.pieces.invariant.within in
      omega arith;
  appended = told_then c.pieces.invariant.appended c.in-Ok.ensures.content
      (λ before middle after one two. grown c.args.bytes.now before middle after c.pieces.taken c.in-Ok.count one (two ∙ ap (λ (piece : List ℕ). middle ++ take c.in-Ok.count piece) c.behind.ensures));
  well = c.in-Ok.ensures.cause.kept ∙ c.pieces.invariant.well;
}
