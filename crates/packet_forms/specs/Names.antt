-- Names of applications: 1 to 19 letters, digits and underscores, kept in 20 bytes.
use Rattle.std.specs.Prelude.{ℕ, ◌-◌, ◌==◌, Bool, ◌&&◌, ◌||◌, List, ◌++◌, length, drop, replicate, nat_le, nat_lt}
use Rattle.std.specs.List.{list_all, before_first}

-- an ASCII digit, capital letter, small letter or underscore
abbrev pub is_name_byte : ℕ → Bool
is_name_byte c = (nat_le 48 c && nat_le c 57) || (nat_le 65 c && nat_le c 90) || (nat_le 97 c && nat_le c 122) || (c == 95)

-- a text of 1 to 19 such bytes
unfoldable pub is_name_text : List ℕ → Bool
is_name_text text = nat_lt 0 (length text) && nat_le (length text) 19 && list_all is_name_byte text

-- the text of a name: its bytes before the first zero byte
unfoldable pub name_text : List ℕ → List ℕ
name_text bytes = before_first (λ b. b == 0) bytes

-- a list of 20 bytes that is the text of a name and then zero bytes
unfoldable pub is_name : List ℕ → Bool
is_name bytes =
    (length bytes == 20) && is_name_text (name_text bytes)
    && list_all (λ b. b == 0) (drop (length (name_text bytes)) bytes)

-- the name of a text: its bytes, and zero bytes up to 20
unfoldable pub name_of : List ℕ → List ℕ
name_of text = text ++ replicate (20 - length text) 0
