-- What the words of a line say of an entry.
use Rattle.std.specs.Prelude.{ℕ, ◌==◌, Bool, false, nat_lt, if◌then◌else◌, List, [], ◌∷◌, codes, Option, Some, None, option_and_then}
use Rattle.std.specs.Str.{bytes_eq}
use Rattle.row_forms.specs.Words.{number}
use Rattle.row_forms.specs.Rows.{behind_key}
use Rattle.entry_lines.specs.declared.words.Sought.{Sought}
use Rattle.entry_lines.specs.declared.words.Sought.TheVariants.{Entry, Behind, Command}

-- whether the first of words is this one
abbrev pub is_first : List ℕ → List (List ℕ) → Bool
is_first wanted [] = false
is_first wanted (w ∷ ws) = bytes_eq w wanted

-- the words behind the first one
abbrev pub more_words : List (List ℕ) → List (List ℕ)
more_words [] = []
more_words (w ∷ ws) = ws

-- the number that the first of words writes
abbrev pub first_number : List (List ℕ) → Option ℕ
first_number [] = None
first_number (w ∷ ws) = number 65535 w

-- the number that the first of words gives behind `number=`
abbrev pub keyed_number : List (List ℕ) → Option ℕ
keyed_number [] = None
keyed_number (w ∷ ws) = option_and_then (number 65535) (behind_key (codes "number") w)

-- the number of the entry that words say: `NUMBER ..`, or `raw NUMBER HEX`
unfoldable pub entry_said_in : List (List ℕ) → Option ℕ
entry_said_in ws = if is_first (codes "raw") ws then first_number (more_words ws) else first_number ws

-- the number of the command that words say: `command number=N ..`
unfoldable pub command_said_in : List (List ℕ) → Option ℕ
command_said_in ws = if is_first (codes "command") ws then keyed_number (more_words ws) else None

abbrev pub is_number : ℕ → Option ℕ → Bool
is_number n None = false
is_number n (Some m) = m == n

abbrev pub is_behind : ℕ → Option ℕ → Bool
is_behind n None = false
is_behind n (Some m) = nat_lt n m

-- whether words say what is looked for
abbrev pub says : Sought → List (List ℕ) → Bool
says (Entry n) ws = is_number n (entry_said_in ws)
says (Behind n) ws = is_behind n (entry_said_in ws)
says (Command n) ws = is_number n (command_said_in ws)
