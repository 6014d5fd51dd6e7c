use Rattle.std.proofs.Common.{◌≡◌, ◌++◌, take}
use Rattle.std.specs.List.{flat_map}
use Rattle.scenario.specs.declared.frame.Upset.{Upset}
use Rattle.input_words.specs.Inputs.{input_line, upset_words}
use Rattle.input_words.proofs.inputs.tell_upsets.Given as goal

abbrev pub invariant-loop-upset : goal.invariant-loop-upset
invariant-loop-upset l = l.out.items ≡ l.fn.out.items ++ flat_map (λ (u : Upset). input_line l.time (upset_words u)) (take l.upset-index l.upsets)
