use Rattle.std.proofs.Common.{◌≡◌, ◌++◌, map, drop}
use Rattle.std.specs.Prelude.{string_bytes}
use Rattle.std.specs.Vec.Iter.{into_iter_items, into_iter_len}
use Rattle.vigil.proofs.program.words_behind_name.Given as goal

-- the words so far, and then those that are still to come
abbrev pub invariant-words : goal.invariant-words
invariant-words l = l.words ++ map string_bytes (into_iter_items l.given) ≡ drop 1 (map string_bytes (into_iter_items l.fn.given))

abbrev pub decreases-words : goal.decreases-words
decreases-words l = into_iter_len l.given
