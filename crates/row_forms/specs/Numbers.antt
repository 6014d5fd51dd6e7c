-- Numbers of one, two and four bytes, and how they are written.
use Rattle.std.specs.Prelude.{ℕ, zero, suc, ◌+◌, ◌-◌, ◌*◌, ◌/◌, ◌%◌, ◌^◌, ◌==◌, Bool, true, false, ◌&&◌, not, if◌then◌else◌, nat_lt, nat_le, List, [], ◌∷◌, ◌++◌, length, take, drop, map, codes, decimal, slice_index, Option, Some, None, option_map, option_and_then}
use Rattle.std.specs.List.{list_all}
use Rattle.std.specs.Char.{is_digit}
use Rattle.std.specs.Str.{bytes_eq}
use Rattle.packet_forms.specs.Hex.{hex}
use Rattle.packet_forms.specs.Numbers.{be16_at, be32_at, be16_bytes, be32_bytes}
use Rattle.row_forms.specs.declared.field.Choice.{Choice}
use Rattle.row_forms.specs.declared.field.Spelling.{Spelling}
use Rattle.row_forms.specs.declared.field.Spelling.TheVariants as spellings
use Rattle.row_forms.specs.declared.field.Width.{Width}
use Rattle.row_forms.specs.declared.field.Width.TheVariants.{U8, U16, U32}
use Rattle.row_forms.specs.Words.{digits, number, at_most}
use Rattle.row_forms.specs.Lists.{parts, listed}

-- how many bytes a number of this width has
abbrev pub bytes_of : Width → ℕ
bytes_of U8 = 1
bytes_of U16 = 2
bytes_of U32 = 4

-- the largest number of this width
abbrev pub most_of : Width → ℕ
most_of U8 = 255
most_of U16 = 65535
most_of U32 = 4294967295

-- the bytes of a number, the most significant first
abbrev pub number_bytes : Width → ℕ → List ℕ
number_bytes U8 n = n % 256 ∷ []
number_bytes U16 n = be16_bytes n
number_bytes U32 n = be32_bytes n

-- the number of the first bytes
abbrev pub number_at : Width → List ℕ → ℕ
number_at U8 bytes = slice_index bytes 0
number_at U16 bytes = be16_at bytes 0
number_at U32 bytes = be32_at bytes 0

-- the number of the first choice with this text, where it isn't over `most`; else the number that the text writes
unfoldable pub choice_said : ℕ → List Choice → List ℕ → Option ℕ
choice_said most [] text = number most text
choice_said most (c ∷ cs) text = if bytes_eq c.text.now text then at_most most c.number else choice_said most cs text

-- the text of the first choice with this number; else its decimal digits
unfoldable pub choice_shown : List Choice → ℕ → List ℕ
choice_shown [] n = decimal n
choice_shown (c ∷ cs) n = if c.number == n then c.text.now else choice_shown cs n

-- a byte over 32 that is no comma
abbrev pub is_mark : ℕ → Bool
is_mark b = nat_lt 32 b && not (b == 44)

-- a text that is no number: it has no spaces and no commas, and doesn't begin with a digit
abbrev pub is_choice_text : List ℕ → Bool
is_choice_text text = nat_lt 0 (length text) && not (is_digit (slice_index text 0) 10) && list_all is_mark text

-- choices of numbers up to `most`, whose texts differ
unfoldable pub are_choices : ℕ → List Choice → Bool
are_choices most [] = true
are_choices most (c ∷ cs) =
    is_choice_text c.text.now && nat_le c.number most && list_all (λ d. not (bytes_eq d.text.now c.text.now)) cs && are_choices most cs

-- the number of a bit that comes behind another one
abbrev pub bit_said : ℕ → ℕ → List ℕ → Option ℕ
bit_said bits last text = option_and_then (λ bit. if nat_lt last bit then Some bit else None) (number bits text)

-- bits of rising numbers behind `last`, as a number
unfoldable pub bits_said : ℕ → ℕ → List (List ℕ) → Option ℕ
bits_said bits last [] = Some 0
bits_said bits last (text ∷ more) =
    option_and_then (λ bit. option_map (λ rest. 2 ^ (bit - 1) + rest) (bits_said bits bit more)) (bit_said bits last text)

-- a mask: `none`, or the numbers of its bits between commas
unfoldable pub mask_said : ℕ → List ℕ → Option ℕ
mask_said bits text = if bytes_eq text (codes "none") then Some 0 else bits_said bits 0 (parts text)

-- the numbers of the bits that are 1, of so many of which the lowest has the number `first`
unfoldable pub bits_of : ℕ → ℕ → ℕ → List ℕ
bits_of zero first n = []
bits_of (suc bits) first n = if n % 2 == 1 then first ∷ bits_of bits (first + 1) (n / 2) else bits_of bits (first + 1) (n / 2)

unfoldable pub mask_shown : ℕ → ℕ → List ℕ
mask_shown bits n = if n == 0 then codes "none" else listed false (map decimal (bits_of bits 1 n))

-- the seconds of so many hours, minutes under 60 and seconds under 60
abbrev pub span_of : Option ℕ → Option ℕ → Option ℕ → Option ℕ
span_of (Some hours) (Some minutes) (Some seconds) =
    if nat_lt minutes 60 && nat_lt seconds 60 then Some (3600 * hours + 60 * minutes + seconds) else None
span_of hours minutes seconds = None

-- the seconds that `H:MM:SS` says, with 1 to 5 digits of hours
unfoldable pub span_said : List ℕ → Option ℕ
span_said text =
    let end = length text in
    if nat_lt 6 end && (slice_index text (end - 6) == 58) && (slice_index text (end - 3) == 58)
    then span_of (digits 10 5 (take (end - 6) text)) (digits 10 2 (take 2 (drop (end - 5) text))) (digits 10 2 (drop (end - 2) text))
    else None

-- a time so many seconds behind the epoch
abbrev pub behind_epoch : ℕ → Option ℕ → Option ℕ → Option ℕ
behind_epoch most (Some epoch) (Some span) = at_most most (epoch + span)
behind_epoch most epoch span = None

-- a time: a number of seconds, or `+H:MM:SS` behind the epoch
unfoldable pub time_said : Option ℕ → ℕ → List ℕ → Option ℕ
time_said epoch most text =
    if slice_index text 0 == 43 then behind_epoch most epoch (span_said (drop 1 text)) else number most text

-- the number that a text says
abbrev pub number_said : Option ℕ → Width → Spelling → List ℕ → Option ℕ
number_said epoch w spellings.Decimal text = number (most_of w) text
number_said epoch w spellings.Hex text = number (most_of w) text
number_said epoch w (spellings.Choice choices) text = choice_said (most_of w) choices.now text
number_said epoch w spellings.Mask text = mask_said (8 * bytes_of w) text
number_said epoch w spellings.Time text = time_said epoch (most_of w) text

-- the text of a number with these bytes
abbrev pub number_shown : Width → Spelling → ℕ → List ℕ → List ℕ
number_shown w spellings.Decimal n bytes = decimal n
number_shown w spellings.Hex n bytes = codes "0x" ++ hex bytes
number_shown w (spellings.Choice choices) n bytes = choice_shown choices.now n
number_shown w spellings.Mask n bytes = mask_shown (8 * bytes_of w) n
number_shown w spellings.Time n bytes = decimal n
