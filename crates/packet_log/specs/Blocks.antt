-- Bytes that wait in a block until a sink takes them, and where frames end among them.
use Rattle.std.specs.Prelude.{◌≡◌, ℕ, ◌+◌, ◌-◌, ◌<◌, ◌≤◌, List, [], ◌∷◌, ◌++◌, length, take, map, count_by, nat_lt, flat_map, Option, option_map, Result, MatchResult}
use Rattle.std.specs.List.{All}
use Rattle.fsw_outside.specs.Told.{WhereTold}

-- What waits: the bytes that the sink hasn't taken, how many bytes of the block it took before them, and the ends of
-- frames, each as the number of the block's bytes before it.
pub record Waiting : Type 0 where
  pub bytes : List ℕ
  pub taken : ℕ
  pub ends : List ℕ

-- nothing waits
abbrev pub empty_block : Waiting
empty_block = record { bytes = []; taken = 0; ends = [] }

-- what a sink tells, and behind it what waits
abbrev pub tells : Option (List ℕ) → Waiting → Option (List ℕ)
tells held block = option_map (λ bytes. bytes ++ block.bytes) held

-- So many bytes were given to the block in all, and frames ended there: those that the block has no more ended among the
-- bytes before its first one, which the sink took.
pub record Notes (ends : List ℕ) (given : ℕ) (block : Waiting) : Type 0 where
  pub before : ℕ
  pub size : given ≡ before + block.taken + length block.bytes
  pub earlier : List ℕ
  pub whole : ends ≡ earlier ++ map (λ end. before + end) block.ends
  pub handed : All (λ end. end ≤ before) earlier
  pub within : All (λ end. end ≤ block.taken + length block.bytes) block.ends

-- A part of a text was given to a block, from the text's front: all of it where the call succeeded, and not all where it failed.
pub record Puts {E : Type 0} (result : Result Unit E) (text : List ℕ) (old new : Waiting) (before after : Option (List ℕ)) : Type 0 where
  pub count : ℕ
  pub size : MatchResult result (λ _. count ≡ length text) (λ _. count < length text)
  pub notes : (ends : List ℕ) (given : ℕ) → Notes ends given old → Notes ends (given + count) new
  pub told : WhereTold (tells before old) (tells after new) (λ earlier later. later ≡ earlier ++ take count text)

-- how many of these ends are behind the bytes that a sink took
unfoldable pub late_in : List ℕ → ℕ → ℕ
late_in ends taken = count_by (λ end. nat_lt taken end) ends

-- where each of these texts ends, the first of which begins behind so many bytes
unfoldable pub ends_from : ℕ → List (List ℕ) → List ℕ
ends_from start [] = []
ends_from start (text ∷ texts) = (start + length text) ∷ ends_from (start + length text) texts

-- texts, one behind another
abbrev pub joined : List (List ℕ) → List ℕ
joined texts = flat_map (λ text. text) texts

-- how many of these texts end among the first bytes that a sink took
abbrev pub whole_in : List (List ℕ) → ℕ → ℕ
whole_in texts taken = length texts - late_in (ends_from 0 texts) taken
