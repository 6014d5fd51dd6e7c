use Rattle.std.proofs.Common.{◌≡◌, ◌++◌, length}
use Rattle.load_texts.specs.Loaded.{loaded_text}
use Rattle.load_texts.proofs.showing.show_bytes.Given as goal

abbrev pub invariant-lines : goal.invariant-lines
invariant-lines l = l.fn.out.items ++ loaded_text l.bytes ≡ l.out.items ++ loaded_text l.rest

abbrev pub decreases-lines : goal.decreases-lines
decreases-lines l = length l.rest
