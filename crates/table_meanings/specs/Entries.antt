-- What the lines of a table's text mean, entry by entry.
use Rattle.std.specs.Prelude.{ℕ, ◌==◌, Bool, false, if◌then◌else◌, List, [], ◌∷◌, map, codes, Option, Some, None, option_map}
use Rattle.std.specs.List.{range_with_len}
use Rattle.std.specs.Str.{bytes_eq}
use Rattle.row_forms.specs.Words.{hex_said, number}
use Rattle.table_texts.specs.Lines.{Numbered}

abbrev pub first_number : List (List ℕ) → Option ℕ
first_number [] = None
first_number (w ∷ ws) = number 65535 w

-- the number of the entry that a line is about: its first word, or the one behind `raw`
unfoldable pub entry_number : List (List ℕ) → Option ℕ
entry_number [] = None
entry_number (w ∷ ws) = if bytes_eq w (codes "raw") then first_number ws else number 65535 w

abbrev pub is_number : ℕ → Option ℕ → Bool
is_number k None = false
is_number k (Some m) = m == k

-- the words of the first line about entry k
unfoldable pub line_about : ℕ → List Numbered → Option (List (List ℕ))
line_about k [] = None
line_about k (line ∷ more) = if is_number k (entry_number line.words) then Some line.words else line_about k more

-- the bytes of a line `raw`, from its number on
abbrev pub raw_bytes : List (List ℕ) → Option (List ℕ)
raw_bytes [] = None
raw_bytes (n ∷ []) = None
raw_bytes (n ∷ w ∷ ws) = hex_said w

-- the entries of a kind: what words behind a number mean, what the loader reads in the bytes of an entry, and the entry that isn't used
pub record EntryMeaning (E : Type 0) : Type 0 where
  pub said : List (List ℕ) → Option E
  pub read : List ℕ → E
  pub unused : E

-- what a line means; an entry that no line is about isn't used, and bytes are what the loader reads in them
abbrev pub line_meant : {E : Type 0} → EntryMeaning E → Option (List (List ℕ)) → Option E
line_meant m None = Some m.unused
line_meant m (Some []) = None
line_meant m (Some (w ∷ ws)) = if bytes_eq w (codes "raw") then option_map m.read (raw_bytes ws) else m.said ws

-- what lines mean as the entries 1 to `count`
abbrev pub entries_meant : {E : Type 0} → EntryMeaning E → ℕ → List Numbered → List (Option E)
entries_meant m count lines = map (λ k. line_meant m (line_about k lines)) (range_with_len 1 count)
