use Rattle.std.proofs.Common.{◌≡◌, ◌++◌, take}
use Rattle.std.specs.List.{flat_map}
use Rattle.input_words.specs.declared.inputs.GivenFile.{GivenFile}
use Rattle.input_words.specs.Inputs.{file_line}
use Rattle.input_words.proofs.inputs.tell_each_file.Given as goal

abbrev pub invariant-loop-file : goal.invariant-loop-file
invariant-loop-file l = l.out.items ≡ l.fn.out.items ++ flat_map (λ (file : GivenFile). file_line file) (take l.file-index l.files)
