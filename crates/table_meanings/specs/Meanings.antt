-- What the words of a row mean, field by field, and what stands in its bytes.
use Rattle.std.specs.Prelude.{ℕ, ◌-◌, List, [], ◌∷◌, ◌++◌, length, take, drop, replicate, if◌then◌else◌, Option, Some, None, option_map, option_and_then}
use Rattle.std.specs.Str.{bytes_eq}
use Rattle.packet_forms.specs.Numbers.{be16_at}
use Rattle.row_forms.specs.declared.field.Field.{Field}
use Rattle.row_forms.specs.declared.field.Field.TheVariants.{Value, Zeros, Check}
use Rattle.row_forms.specs.declared.field.Kind.{Kind}
use Rattle.row_forms.specs.declared.field.Kind.TheVariants.{Number, Name, Block, Expression}
use Rattle.row_forms.specs.Lists.{parts}
use Rattle.row_forms.specs.Numbers.{number_at, number_said}
use Rattle.row_forms.specs.Rows.{behind_key}
use Rattle.row_forms.specs.Values.{steps_said, steps_at, width}
use Rattle.row_forms.specs.Words.{name_said}
use Rattle.hs_tables.specs.Names.{name_of_bytes}

-- what a field means: a number, the 20 bytes of a name where they are one, or how many steps an expression has and the numbers in its
-- 16 places
pub data Meaning : Type 0 where
  Amount : ℕ → Meaning
  Called : Option (List ℕ) → Meaning
  Steps : ℕ → List ℕ → Meaning

-- an expression of these steps: zeros stand in the places that it doesn't have
abbrev pub expression_meant : List ℕ → Meaning
expression_meant steps = Steps (length steps) (steps ++ replicate (16 - length steps) 0)

-- what a text means
abbrev pub text_meaning : Option ℕ → Kind → List ℕ → Option Meaning
text_meaning epoch (Number w spelling) text = option_map Amount (number_said epoch w spelling text)
text_meaning epoch Name text = option_map (λ name. Called (Some name)) (name_said text)
text_meaning epoch Block text = None
text_meaning epoch (Expression words) text = option_map expression_meant (steps_said words.now (parts text))

-- what a field means, by its key
pub record Keyed : Type 0 where
  pub key : List ℕ
  pub meaning : Meaning

abbrev pub keyed : List ℕ → Meaning → Keyed
keyed key meaning = record { key = key; meaning = meaning }

abbrev pub keyed_before : List ℕ → Option Meaning → Option (List Keyed) → Option (List Keyed)
keyed_before key (Some m) (Some ms) = Some (keyed key m ∷ ms)
keyed_before key m ms = None

-- what a word means, and what those behind it do; a block's bytes, and what is behind them, aren't told
abbrev pub word_meanings : Option ℕ → List ℕ → Kind → List ℕ → Option (List Keyed) → Option (List Keyed)
word_meanings epoch key (Number w spelling) word rest = keyed_before key (option_and_then (text_meaning epoch (Number w spelling)) (behind_key key word)) rest
word_meanings epoch key Name word rest = keyed_before key (option_and_then (text_meaning epoch Name) (behind_key key word)) rest
word_meanings epoch key Block word rest = Some []
word_meanings epoch key (Expression words) word rest = keyed_before key (option_and_then (text_meaning epoch (Expression words)) (behind_key key word)) rest

-- what the words of a row mean, in their order
unfoldable pub meanings_said : Option ℕ → List Field → List (List ℕ) → Option (List Keyed)
meanings_said epoch [] ws = Some []
meanings_said epoch (Value key kind ∷ fs) [] = None
meanings_said epoch (Value key kind ∷ fs) (w ∷ ws) = word_meanings epoch key.now kind w (meanings_said epoch fs ws)
meanings_said epoch (Zeros count ∷ fs) ws = meanings_said epoch fs ws
meanings_said epoch (Check ∷ fs) ws = meanings_said epoch fs ws

abbrev pub kind_meanings : List ℕ → Kind → List ℕ → List Keyed → List Keyed
kind_meanings key (Number w spelling) bytes rest = keyed key (Amount (number_at w bytes)) ∷ rest
kind_meanings key Name bytes rest = keyed key (Called (name_of_bytes (take 20 bytes))) ∷ rest
kind_meanings key Block bytes rest = []
kind_meanings key (Expression words) bytes rest = keyed key (Steps (be16_at bytes 0) (steps_at 16 (drop 2 bytes))) ∷ rest

-- what the bytes of a row mean, in their order
unfoldable pub meanings_in : List Field → List ℕ → List Keyed
meanings_in [] bytes = []
meanings_in (Value key kind ∷ fs) bytes = kind_meanings key.now kind bytes (meanings_in fs (drop (width kind bytes) bytes))
meanings_in (Zeros count ∷ fs) bytes = meanings_in fs (drop count bytes)
meanings_in (Check ∷ fs) bytes = meanings_in fs (drop 2 bytes)

-- ---- one of them, by its key

-- what the field of a key means, and the number 0 where there is none
abbrev pub meaning_of : List Keyed → List ℕ → Meaning
meaning_of [] key = Amount 0
meaning_of (m ∷ ms) key = if bytes_eq m.key key then m.meaning else meaning_of ms key

abbrev pub amount_of : Meaning → ℕ
amount_of (Amount n) = n
amount_of (Called name) = 0
amount_of (Steps count steps) = count

abbrev pub name_meant : Meaning → Option (List ℕ)
name_meant (Amount n) = None
name_meant (Called name) = name
name_meant (Steps count steps) = None

abbrev pub steps_of : Meaning → List ℕ
steps_of (Amount n) = []
steps_of (Called name) = []
steps_of (Steps count steps) = steps

abbrev pub amount_in : List Keyed → List ℕ → ℕ
amount_in ms key = amount_of (meaning_of ms key)

abbrev pub name_meant_in : List Keyed → List ℕ → Option (List ℕ)
name_meant_in ms key = name_meant (meaning_of ms key)

abbrev pub steps_in : List Keyed → List ℕ → List ℕ
steps_in ms key = steps_of (meaning_of ms key)
