use Rattle.std.proofs.Common.{◌≡◌, ℕ, List, ◌++◌, length, take, ap, ◌∙◌, arith}
use Rattle.std.proofs.lemmas.Grind.{common_steps}
use Rattle.ground_tools.proofs.WovenLemmas.{woven_one, woven_nothing, nothing_there}
use Rattle.ground_tools.proofs.told_pieces.tell_line.Goals as goal

pub returns-then-is_empty-clause-woven : goal.returns-then-is_empty-clause-woven
returns-then-is_empty-clause-woven g c =
    let none : length c.step.new.out.items ≡ 0 = grind (arith, common_steps) in
    λ text s.
    woven_nothing c.args.teller.now c.step.new.self text (take c.in_ok-step.step.taken c.args.piece.now) c.clear.new.self.items c.step.new.out.items c.args.out.now.items c.clear.ensures.items
    (nothing_there c.step.new.out.items none) (c.in_ok-step.ensures.told text s)

pub returns-clause-woven : goal.returns-clause-woven
returns-clause-woven g c = λ text s.
    woven_one c.args.teller.now c.step.new.self text (take c.in_ok-step.step.taken c.args.piece.now) c.clear.new.self.items c.step.new.out.items c.args.out.now.items c.in_ok-tell_frames.ensures.0
    c.extend_from_slice.new.self.items c.clear.ensures.items (c.in_ok-step.ensures.told text s)
    (c.in_ok-extend_from_slice.ensures.items ∙ ap (λ (xs : List ℕ). c.tell_frames.new.out.items ++ xs) c.as_slice.ensures.value
    ∙ ap (λ (xs : List ℕ). xs ++ c.step.new.out.items) c.in_ok-tell_frames.ensures.1)
