-- What a value's text says in bytes, and the text that bytes have.
use Rattle.std.specs.Prelude.{◌≡◌, ◌≤◌, ℕ, zero, suc, ◌+◌, ◌-◌, ◌*◌, ◌==◌, Bool, true, false, ◌&&◌, if◌then◌else◌, nat_lt, nat_le, List, [], ◌∷◌, ◌++◌, length, drop, map, replicate, Option, Some, None, option_map, option_and_then}
use Rattle.std.specs.List.{list_all, flat_map}
use Rattle.packet_forms.specs.Hex.{hex}
use Rattle.packet_forms.specs.Names.{is_name, name_text}
use Rattle.packet_forms.specs.Numbers.{be16_at, be16_bytes}
use Rattle.row_forms.specs.declared.field.Choice.{Choice}
use Rattle.row_forms.specs.declared.field.Kind.{Kind}
use Rattle.row_forms.specs.declared.field.Kind.TheVariants.{Number, Name, Block, Expression}
use Rattle.row_forms.specs.declared.field.Spelling.{Spelling}
use Rattle.row_forms.specs.declared.field.Spelling.TheVariants as spellings
use Rattle.row_forms.specs.declared.field.Width.{Width}
use Rattle.row_forms.specs.declared.field.Width.TheVariants.{U8, U16, U32}
use Rattle.row_forms.specs.declared.fault.Reason.{Reason}
use Rattle.row_forms.specs.declared.fault.Reason.TheVariants as reasons
use Rattle.row_forms.specs.Words.{hex_said, name_said}
use Rattle.row_forms.specs.Lists.{parts, listed}
use Rattle.row_forms.specs.Numbers.{bytes_of, number_bytes, number_at, most_of, number_said, number_shown, choice_said, choice_shown, are_choices}

-- the numbers of an expression's words
unfoldable pub steps_said : List Choice → List (List ℕ) → Option (List ℕ)
steps_said words [] = Some []
steps_said words (text ∷ more) =
    option_and_then (λ n. option_map (λ rest. n ∷ rest) (steps_said words more)) (choice_said 65535 words text)

-- the bytes of an expression's words
abbrev pub steps_bytes : Option (List ℕ) → Option (List ℕ)
steps_bytes steps = option_map (flat_map be16_bytes) steps

-- an expression of these words: how many they are, and they, in 16 places of two bytes
abbrev pub expression_of : List ℕ → Option (List ℕ)
expression_of steps =
    if nat_le (length steps) 16
    then Some (be16_bytes (length steps) ++ (flat_map be16_bytes steps ++ replicate (32 - 2 * length steps) 0)) else None

unfoldable pub expression_said : List Choice → List ℕ → Option (List ℕ)
expression_said words text = option_and_then expression_of (steps_said words (parts text))

-- so many numbers of two bytes
unfoldable pub steps_at : ℕ → List ℕ → List ℕ
steps_at zero bytes = []
steps_at (suc n) bytes = be16_at bytes 0 ∷ steps_at n (drop 2 bytes)

unfoldable pub expression_shown : List Choice → List ℕ → List ℕ
expression_shown words bytes = listed false (map (choice_shown words) (steps_at (be16_at bytes 0) (drop 2 bytes)))

-- 34 bytes: 1 to 16, so many words, and zero bytes behind them
unfoldable pub is_expression : List ℕ → Bool
is_expression bytes =
    (length bytes == 34) && nat_lt 0 (be16_at bytes 0) && nat_le (be16_at bytes 0) 16
    && list_all (λ b. b == 0) (drop (2 + 2 * be16_at bytes 0) bytes)

-- the bytes that a value's text says
unfoldable pub value_said : Option ℕ → Kind → List ℕ → Option (List ℕ)
value_said epoch (Number w spelling) text = option_map (number_bytes w) (number_said epoch w spelling text)
value_said epoch Name text = name_said text
value_said epoch Block text = hex_said text
value_said epoch (Expression words) text = expression_said words.now text

-- how many of these bytes are the value's
abbrev pub width : Kind → List ℕ → ℕ
width (Number w spelling) bytes = bytes_of w
width Name bytes = 20
width Block bytes = length bytes
width (Expression words) bytes = 34

-- whether a text says these bytes, as many as the value has
unfoldable pub can_show : Kind → List ℕ → Bool
can_show (Number w spelling) bytes = length bytes == bytes_of w
can_show Name bytes = is_name bytes
can_show Block bytes = true
can_show (Expression words) bytes = is_expression bytes

-- the text of a value's bytes
unfoldable pub value_shown : Kind → List ℕ → List ℕ
value_shown (Number w spelling) bytes = number_shown w spelling (number_at w bytes) bytes
value_shown Name bytes = name_text bytes
value_shown Block bytes = hex bytes
value_shown (Expression words) bytes = expression_shown words.now bytes

-- why a text says no value
abbrev pub reason_of_number : Width → Spelling → Reason
reason_of_number U8 spellings.Decimal = reasons.Number8
reason_of_number U16 spellings.Decimal = reasons.Number16
reason_of_number U32 spellings.Decimal = reasons.Number32
reason_of_number U8 spellings.Hex = reasons.Number8
reason_of_number U16 spellings.Hex = reasons.Number16
reason_of_number U32 spellings.Hex = reasons.Number32
reason_of_number w (spellings.Choice choices) = reasons.Choice
reason_of_number w spellings.Mask = reasons.Mask
reason_of_number w spellings.Time = reasons.Time

abbrev pub reason_of : Kind → Reason
reason_of (Number w spelling) = reason_of_number w spelling
reason_of Name = reasons.Name
reason_of Block = reasons.Block
reason_of (Expression words) = reasons.Expression

-- choices that can be told apart, wherever a kind has them
abbrev pub is_spelling : Width → Spelling → Bool
is_spelling w spellings.Decimal = true
is_spelling w spellings.Hex = true
is_spelling w (spellings.Choice choices) = are_choices (most_of w) choices.now
is_spelling w spellings.Mask = true
is_spelling w spellings.Time = true

unfoldable pub is_kind : Kind → Bool
is_kind (Number w spelling) = is_spelling w spelling
is_kind Name = true
is_kind Block = true
is_kind (Expression words) = are_choices 65535 words.now

-- how many bytes a value has, where it isn't all that is left
abbrev pub fixed_size : Kind → Option ℕ
fixed_size (Number w spelling) = Some (bytes_of w)
fixed_size Name = Some 20
fixed_size Block = None
fixed_size (Expression words) = Some 34

-- these bytes are the number that a text says
pub record IsSaidNumber (epoch : Option ℕ) (w : Width) (s : Spelling) (text bytes : List ℕ) : Type 0 where
  pub number : number_said epoch w s text ≡ Some (number_at w bytes)
  pub within : number_at w bytes ≤ most_of w
  pub size : length bytes ≡ bytes_of w
