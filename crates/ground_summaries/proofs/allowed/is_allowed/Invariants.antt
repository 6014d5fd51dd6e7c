use Rattle.std.proofs.Common.{◌≡◌, Bor, List, ℕ, false, take}
use Rattle.std.specs.List.{list_any}
use Rattle.ground_summaries.specs.Allowed.{is_among, words_for}
use Rattle.ground_summaries.proofs.allowed.is_allowed.Given as goal

-- none of those before allows it
abbrev pub invariant-loop-words : goal.invariant-loop-words
invariant-loop-words l = list_any (λ (words : Bor (List ℕ)). is_among (words_for l.what) words.now) (take l.words-index l.allowed) ≡ false
