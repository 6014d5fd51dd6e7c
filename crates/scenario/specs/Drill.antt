-- The generated scenario: its text, from the number that it is drawn from.
use Rattle.std.specs.Prelude.{ℕ, zero, suc, ◌+◌, ◌*◌, ◌/◌, ◌%◌, ◌==◌, if◌then◌else◌, List, [], ◌∷◌, ◌++◌, codes, decimal}
use Rattle.packet_forms.specs.MessageIds.{mm_command}
use Rattle.packet_forms.specs.Built.{command_of}
use Rattle.packet_forms.specs.Numbers.{be32_bytes}
unfoldable pub use Rattle.packet_forms.specs.Hex.{hex as upper_hex}
pub use Rattle.packet_forms.specs.Hex.{hex_digit as upper_digit, hex_pair as upper_pair}

-- a draw changes x to this number, whose upper half is drawn
unfoldable pub drawn : ℕ → ℕ
drawn x = (1664525 * x + 1013904223) % 4294967296

unfoldable pub upper : ℕ → ℕ
upper x = x / 65536

-- x behind the draw of c, which is made where b is a multiple of 4
unfoldable pub drawn_behind : ℕ → ℕ
drawn_behind x = if upper x % 4 == 0 then drawn x else x

-- the five numbers that a frame draws, and x behind them
pub record Draws : Type 0 where
  pub a : ℕ
  pub b : ℕ
  pub c : ℕ
  pub d : ℕ
  pub e : ℕ
  pub x : ℕ

unfoldable pub draws_of : ℕ → Draws
draws_of x =
    let at_a = drawn x in
    let at_b = drawn at_a in
    let at_c = drawn_behind at_b in
    let at_d = drawn at_c in
    let at_e = drawn at_d in
    record { a = upper at_a; b = upper at_b; c = upper at_c; d = upper at_d; e = upper at_e; x = at_e }

-- a counter for the name LOAD
unfoldable pub counter_line : ℕ → List ℕ
counter_line a = codes "app LOAD " ++ decimal (a % 4) ++ codes "\n"

-- an upset, where b is a multiple of 4
unfoldable pub upset_line : ℕ → ℕ → List ℕ
upset_line b c = if b % 4 == 0 then codes "upset " ++ decimal c ++ codes " " ++ decimal (b % 256) ++ codes "\n" else []

-- a command of Memory Manager: to peek at a byte, to poke one, or to fill bytes
unfoldable pub command_drawn : ℕ → ℕ → List ℕ
command_drawn d e =
    if d % 3 == 0 then command_of mm_command 2 (8 ∷ be32_bytes e)
    else if d % 3 == 1 then command_of mm_command 3 (8 ∷ be32_bytes e ++ be32_bytes (d % 256))
    else command_of mm_command 8 (be32_bytes (e % 32768) ++ be32_bytes (1 + d % 256) ++ e % 256 ∷ [])

unfoldable pub send_line : List ℕ → List ℕ
send_line packet = codes "send " ++ upper_hex packet ++ codes "\n"

-- the lines of a frame
unfoldable pub frame_lines : Draws → List ℕ
frame_lines q = counter_line q.a ++ upset_line q.b q.c ++ send_line (command_drawn q.d q.e) ++ codes "tick\n"

-- the lines of so many frames, drawn from x
unfoldable pub frames_text : ℕ → ℕ → List ℕ
frames_text zero x = []
frames_text (suc n) x = frame_lines (draws_of x) ++ frames_text n (draws_of x).x

-- the header, which ends with `start`
unfoldable pub drill_header : List ℕ
drill_header = codes "epoch 1000000\nregion RAM 0 65536\nregion EEPROM 65536 65536\nstart\n"

-- the whole text, drawn from k
unfoldable pub drill_text : ℕ → List ℕ
drill_text k = drill_header ++ frames_text 2000 k ++ codes "end\n"

-- what comes behind a frame when so many are left: those and `end`, or nothing behind the last one, whose lines `end` follows
unfoldable pub text_left : ℕ → ℕ → List ℕ
text_left zero x = []
text_left (suc n) x = frames_text (suc n) x ++ codes "end\n"
