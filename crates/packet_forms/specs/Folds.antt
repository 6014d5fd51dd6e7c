-- The check of words of two bytes, by folding: a word is taken away where it is added to the words 14 and 15 behind it, and where the words taken away have an odd number of ones, 0xC001 is added to the check.
use Rattle.std.specs.Prelude.{ℕ, zero, suc, ◌+◌, ◌*◌, ◌/◌, ◌%◌, ◌==◌, ◌-◌, if◌then◌else◌, List, length, take, drop, slice_index, bit_xor}
use Rattle.std.specs.Int.{w16, from_le_bytes}
use Rattle.packet_forms.specs.Crc.{after_zeros}

-- word i of a list of bytes, its first byte the lowest
unfoldable pub word_in : List ℕ → ℕ → ℕ
word_in bytes i = from_le_bytes w16 (take 2 (drop (2 * i) bytes))

-- a word, and with it the sums that stand 14 and 15 before it, where sum k stands at place k + 15
unfoldable pub with_sums : (ℕ → ℕ) → (ℕ → ℕ) → (ℕ → ℕ) → ℕ → ℕ
with_sums word near far i = bit_xor (word i) (bit_xor (near (i + 1)) (far i))

-- the same of a list of bytes and a list of sums
abbrev pub folded_word : List ℕ → List ℕ → ℕ → ℕ
folded_word bytes sums i = with_sums (word_in bytes) (slice_index sums) (slice_index sums) i

-- the check that begins with 0, of n words from word i on
unfoldable pub words_check : (ℕ → ℕ) → ℕ → ℕ → ℕ
words_check word i zero = 0
words_check word i (suc n) = bit_xor (after_zeros (16 * suc n) (word i)) (words_check word (suc i) n)

-- what a bit adds to the check
unfoldable pub odd_bit : ℕ → ℕ
odd_bit b = if b == 1 then 0xC001 else 0

-- what the n lowest bits of a word add together
unfoldable pub odd_part : ℕ → ℕ → ℕ
odd_part zero w = 0
odd_part (suc n) w = bit_xor (odd_bit (w % 2)) (odd_part n (w / 2))

-- the check of the words from word i on, and what the words that were taken away add to it, whose exclusive or is known
unfoldable pub words_left : List ℕ → List ℕ → ℕ → ℕ → ℕ
words_left bytes sums taken i = bit_xor (words_check (folded_word bytes sums) i (length bytes / 2 - i)) (odd_part 16 taken)
