use Rattle.std.proofs.Common.{ℕ, List, ◌++◌, take, ap, sym, ◌∙◌, subst}
use Rattle.std.proofs.Math.Seq.{take-add}
use Rattle.ground_tools.specs.Woven.{Weaves}
use Rattle.ground_tools.proofs.TellingLemmas.{part_fits}
use Rattle.ground_tools.proofs.WovenLemmas.{woven_on}
use Rattle.ground_tools.proofs.told_pieces.tell_piece.Goals as goal

pub lines-preserved : goal.lines-preserved
lines-preserved g c =
    let piece : List ℕ = c.args.piece.now in
    let rest : List ℕ = c.behind.result.now in
    let n : ℕ = c.lines.taken in
    let m : ℕ = c.in_ok-step.step in
    record {
      woven = λ text s.
          subst (λ (xs : List ℕ). Weaves c.args.teller.now c.tell_line.new.teller text xs c.args.out.now.items c.tell_line.new.out.items) (ap (λ (xs : List ℕ). take n piece ++ take m xs) c.behind.ensures ∙ sym (take-add n m piece))
          (woven_on c.args.teller.now c.lines.teller c.tell_line.new.teller text (take n piece) (take m rest) c.args.out.now.items c.lines.out.items c.tell_line.new.out.items
          (c.lines.invariant.woven text s) (c.in_ok-step.ensures.woven (text ++ take n piece) (c.lines.invariant.woven text s).reader));
      taken = part_fits piece rest n m c.lines.invariant.taken c.behind.ensures c.in_ok-step.ensures.taken;
    }
