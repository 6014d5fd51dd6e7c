-- Files by name, and what opening and reading them does.
use Rattle.std.specs.Prelude.{◌≡◌, ℕ, ◌+◌, List, [], ◌∷◌, ◌++◌, take, Option, Some, None, Result, is_some, if◌then◌else◌, bytes_eq, ◌↔◌, MatchResult, IfOk}

-- A file, as its name's bytes and its own.
pub record Stored : Type 0 where
  pub name : List ℕ
  pub bytes : List ℕ

-- The bytes of the first file of this name.
abbrev pub file_named : List Stored → List ℕ → Option (List ℕ)
file_named [] name = None
file_named (file ∷ files) name = if bytes_eq file.name name then Some file.bytes else file_named files name

-- What a shelf tells: its files; the rest of the open file, nothing where none is open; how many files it was asked
-- to open; and the name that it was last asked for, none where there was no such file or nothing was asked for.
pub record Content : Type 0 where
  pub files : List Stored
  pub rest : List ℕ
  pub openings : ℕ
  pub name : Option (List ℕ)

-- A call of `open` with this name: the files stay, it is one opening more, and the rest is the whole file where it
-- succeeded, which it may only where there is one.
pub record Opens {E : Type 0} (asked : List ℕ) (result : Result Unit E) (old new : Content) : Type 0 where
  pub files : new.files ≡ old.files
  pub openings : new.openings ≡ old.openings + 1
  pub name : new.name ≡ (if is_some (file_named old.files asked) then Some asked else None)
  pub rest : MatchResult result (λ _. file_named old.files asked ≡ Some new.rest) (λ _. new.rest ≡ [])

-- A call of `next` that left the buffer so: the bytes that it put at the front are the next ones of the file, none exactly at
-- the file's end, and a failed call took none. All else stays.
pub record Reads {E : Type 0} (result : Result ℕ E) (buffer : List ℕ) (old new : Content) : Type 0 where
  pub files : new.files ≡ old.files
  pub openings : new.openings ≡ old.openings
  pub name : new.name ≡ old.name
  pub rest : MatchResult result (λ n. old.rest ≡ take n buffer ++ new.rest) (λ _. new.rest ≡ old.rest)
  pub end : IfOk result (λ n. (n ≡ 0) ↔ (old.rest ≡ []))
