-- How far the reading of a stream's list has come.
use Rattle.std.specs.Prelude.{◌≡◌, ℕ, ◌+◌, ◌*◌, ◌<◌, List, length, take}
use Rattle.memory_window.specs.Memory.{Memory}
use Rattle.md_dwell.specs.Lists.{delays, delays_to_last}
use Rattle.md_dwell.specs.Rounds.{gathered}
use Rattle.md_dwell.specs.declared.tables.DwellEntry.{DwellEntry}

-- In a round that begins at wakeup `from` the first n entries were read, and the next one is read `wait` wakeups after the last wakeup.
pub record IsReadTo (list : List DwellEntry) (from : ℕ) (images : List Memory) (n wait : ℕ) (bytes : List ℕ) : Type 0 where
  pub bytes_so_far : bytes ≡ gathered list images from n
  pub distance : wait + length images ≡ from + delays (take n list) + 1
  pub before : (k : ℕ) → k < n → from + delays (take k list) < length images

-- Round r is the one in which the next entry is read, and the last entries of all earlier rounds were read in earlier wakeups than those of which the images are `past`.
pub record IsInRound (list : List DwellEntry) (since : ℕ) (past images : List Memory) (r n wait : ℕ) (bytes : List ℕ) : Type 0 where
  pub within : n < length list
  pub read : IsReadTo list (since + r * delays list) images n wait bytes
  pub over : (e : ℕ) → e < r → since + e * delays list + delays_to_last list < length past
