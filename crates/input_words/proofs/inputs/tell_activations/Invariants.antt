use Rattle.std.proofs.Common.{◌≡◌, ℕ, ◌++◌, take}
use Rattle.std.specs.List.{flat_map}
use Rattle.input_words.specs.Inputs.{input_line, file_of, activation_words}
use Rattle.input_words.proofs.inputs.tell_activations.Given as goal

abbrev pub invariant-loop-number : goal.invariant-loop-number
invariant-loop-number l = l.out.items ≡ l.fn.out.items ++ flat_map (λ (n : ℕ). input_line l.time (activation_words n (file_of l.files n))) (take l.number-index l.numbers)
