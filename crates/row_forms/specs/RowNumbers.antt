-- The numbers that the words of a row say, and those that stand in its bytes.
use Rattle.std.specs.Prelude.{ℕ, List, [], ◌∷◌, drop, Option, Some, None, option_and_then}
use Rattle.row_forms.specs.declared.field.Field.{Field}
use Rattle.row_forms.specs.declared.field.Field.TheVariants.{Value, Zeros, Check}
use Rattle.row_forms.specs.declared.field.Kind.{Kind}
use Rattle.row_forms.specs.declared.field.Kind.TheVariants.{Number, Name, Block, Expression}
use Rattle.row_forms.specs.Numbers.{number_at, number_said}
use Rattle.row_forms.specs.Values.{width}
use Rattle.row_forms.specs.Rows.{behind_key}

abbrev pub number_before : Option ℕ → Option (List ℕ) → Option (List ℕ)
number_before (Some n) (Some ns) = Some (n ∷ ns)
number_before n ns = None

-- the numbers of a word and of those behind it; behind a block none is told
abbrev pub word_numbers : Option ℕ → List ℕ → Kind → List ℕ → Option (List ℕ) → Option (List ℕ)
word_numbers epoch key (Number w spelling) word rest = number_before (option_and_then (number_said epoch w spelling) (behind_key key word)) rest
word_numbers epoch key Name word rest = rest
word_numbers epoch key Block word rest = Some []
word_numbers epoch key (Expression words) word rest = rest

-- the numbers that the words of a row say, in their order
unfoldable pub numbers_said : Option ℕ → List Field → List (List ℕ) → Option (List ℕ)
numbers_said epoch [] ws = Some []
numbers_said epoch (Value key kind ∷ fs) [] = None
numbers_said epoch (Value key kind ∷ fs) (w ∷ ws) = word_numbers epoch key.now kind w (numbers_said epoch fs ws)
numbers_said epoch (Zeros count ∷ fs) ws = numbers_said epoch fs ws
numbers_said epoch (Check ∷ fs) ws = numbers_said epoch fs ws

abbrev pub value_numbers : Kind → List ℕ → List ℕ → List ℕ
value_numbers (Number w spelling) bytes rest = number_at w bytes ∷ rest
value_numbers Name bytes rest = rest
value_numbers Block bytes rest = []
value_numbers (Expression words) bytes rest = rest

-- the numbers that stand in the bytes of a row, in their order
unfoldable pub numbers_in : List Field → List ℕ → List ℕ
numbers_in [] bytes = []
numbers_in (Value key kind ∷ fs) bytes = value_numbers kind bytes (numbers_in fs (drop (width kind bytes) bytes))
numbers_in (Zeros count ∷ fs) bytes = numbers_in fs (drop count bytes)
numbers_in (Check ∷ fs) bytes = numbers_in fs (drop 2 bytes)
