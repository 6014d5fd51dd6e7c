-- Hexadecimal digits behind a text, byte after byte.
use Rattle.std.proofs.Common.{◌≡◌, ◌<◌, ◌+◌, ℕ, List, ◌++◌, length, take, get_or, sym, ap, ◌∙◌, append-nil}
use Rattle.std.specs.List.{flat_map}
use Rattle.std.proofs.lemmas.List.{take_more, flat_map_more}
use Rattle.packet_forms.specs.Hex.{hex, hex_pair}

-- those of no bytes yet
pub hex_behind : (front bytes : List ℕ) → front ≡ front ++ hex (take 0 bytes)
unfolding hex
hex_behind front bytes = sym (append-nil front)

-- and those of one byte more
pub hex_more : (front bytes now : List ℕ) (i : ℕ) → i < length bytes → now ≡ front ++ hex (take i bytes) → now ++ hex_pair (get_or bytes i 0) ≡ front ++ hex (take (i + 1) bytes)
unfolding hex
hex_more front bytes now i inside so_far =
    ap (λ (xs : List ℕ). xs ++ hex_pair (get_or bytes i 0)) so_far
    ∙ flat_map_more hex_pair front (take i bytes) (get_or bytes i 0)
    ∙ ap (λ (xs : List ℕ). front ++ flat_map hex_pair xs) (sym (take_more bytes i 0 inside))
