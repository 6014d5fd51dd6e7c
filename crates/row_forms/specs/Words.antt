-- The words of a line, and what a word says. A scenario's words are these too.
use Rattle.std.specs.Prelude.{ℕ, ◌+◌, ◌*◌, ◌==◌, Bool, ◌&&◌, if◌then◌else◌, nat_lt, nat_le, nat_eq, List, [], ◌∷◌, length, drop, filter, codes, Option, Some, None, option_and_then}
use Rattle.std.specs.List.{slice_split, list_all, starts_with}
use Rattle.std.specs.Char.{is_digit, digit_value}
use Rattle.std.specs.Str.Parse.{digits_value}
use Rattle.packet_forms.specs.Names.{is_name_text, name_of}

-- a part of a line between two spaces is a word unless it is empty
abbrev pub is_word : List ℕ → Bool
is_word part = nat_lt 0 (length part)

-- the words of a line, in their order: its parts between spaces that aren't empty
unfoldable pub words : List ℕ → List (List ℕ)
words line = filter is_word (slice_split (λ b. b == 32) line)

-- the number that 1 to `room` digits write, and none where a byte is no digit or they are too many
unfoldable pub digits : ℕ → ℕ → List ℕ → Option ℕ
digits base room word =
    if nat_lt 0 (length word) && nat_le (length word) room && list_all (λ c. is_digit c base) word
    then Some (digits_value base word) else None

-- a number: `0x` and 1 to 8 hexadecimal digits, or 1 to 10 decimal digits
abbrev pub any_number : List ℕ → Option ℕ
any_number word = if starts_with nat_eq word (codes "0x") then digits 16 8 (drop 2 word) else digits 10 10 word

-- a number, where it isn't over the largest one that is wanted
abbrev pub at_most : ℕ → ℕ → Option ℕ
at_most most n = if nat_le n most then Some n else None

-- the number that a word writes, where it isn't over `most`
unfoldable pub number : ℕ → List ℕ → Option ℕ
number most word = option_and_then (at_most most) (any_number word)

-- a byte in front of bytes, where there are any
abbrev pub before : ℕ → Option (List ℕ) → Option (List ℕ)
before b None = None
before b (Some bytes) = Some (b ∷ bytes)

-- the bytes that pairs of hexadecimal digits write, the higher digit first
unfoldable pub hex_said : List ℕ → Option (List ℕ)
hex_said [] = Some []
hex_said (c ∷ []) = None
hex_said (c ∷ d ∷ more) =
    if is_digit c 16 && is_digit d 16 then before (16 * digit_value c + digit_value d) (hex_said more) else None

-- the name that a word writes: 1 to 19 letters, digits and `_`, with zero bytes up to 20
unfoldable pub name_said : List ℕ → Option (List ℕ)
name_said word = if is_name_text word then Some (name_of word) else None
