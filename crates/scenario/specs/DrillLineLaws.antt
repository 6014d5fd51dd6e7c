-- What the lines of a generated scenario say, and that they are good.
use Rattle.std.proofs.Common.{◌≡◌, ℕ, ◌+◌, ◌*◌, ◌<◌, ◌≤◌, ◌/◌, ◌%◌, Bool, true, false, List, [], ◌∷◌, ◌++◌, length, refl, arith, Some, None, Ok, codes}
use Rattle.std.specs.Prelude.{◌==◌, if◌then◌else◌, decimal, bit_xor}
use Rattle.std.specs.List.{AllByRecursion, fold}
use Rattle.std.proofs.lemmas.Nat.{xor_of_8}
use Rattle.packet_forms.specs.declared.name.Counter.{Counter}
use Rattle.packet_forms.specs.Built.{command_of, with_checksum, primary_header}
use Rattle.packet_forms.specs.Packets.{checksum_of, version_of, sequence_flags, length_field}
use Rattle.packet_forms.specs.Faults.{fault_of}
use Rattle.packet_forms.specs.Numbers.{be16_at, be16_bytes, be32_bytes}
use Rattle.packet_forms.specs.Names.{is_name_text, name_of}
use Rattle.scenario.specs.declared.sentence.Place.{Place}
use Rattle.scenario.specs.declared.sentence.Place.TheVariants as places
use Rattle.scenario.specs.declared.sentence.Sentence.TheVariants as says
use Rattle.scenario.specs.Words.{words, name_said}
use Rattle.scenario.specs.Sentences.{is_in_frames, line_says, said, verb_at, verb_of, sentence_of, number_or_bad, packet_of, packet_said, app_line, upset_line as upset_said, send_line as send_said}
use Rattle.scenario.specs.Drill.{upper_hex, command_drawn, drawn, upper, drawn_behind, draws_of}
use Rattle.scenario.specs.DrillWordLaws.{all_append, digits_are_plain, own, some_digits, decimal_is_number, hex_is_plain, hex_length, hex_is_bytes, two_words, three_words}

-- ---- packets

abbrev pub IsByte : ℕ → Type 0
IsByte b = b < 256

fold_is_byte : (start : ℕ) (bytes : List ℕ) → start < 256 → AllByRecursion IsByte bytes → fold bit_xor start bytes < 256
fold_is_byte start [] small all = small
fold_is_byte start (b ∷ bytes) small all = fold_is_byte (bit_xor start b) bytes (xor_of_8 start b small all.0) all.1

-- the bytes of a command are bytes
command_is_bytes : (id code : ℕ) (payload : List ℕ) → code < 256 → AllByRecursion IsByte payload → AllByRecursion IsByte (command_of id code payload)
unfolding command_of with_checksum primary_header be16_bytes checksum_of
command_is_bytes id code payload small all =
    let front : AllByRecursion IsByte (primary_header id (length payload + 8) ++ code ∷ []) = (omega arith, (omega arith, (omega arith, (omega arith, (omega arith, (omega arith, (small, tt))))))) in
    let sum : bit_xor 255 (bit_xor (checksum_of (primary_header id (length payload + 8) ++ code ∷ [])) (checksum_of payload)) < 256 =
    xor_of_8 255 (bit_xor (checksum_of (primary_header id (length payload + 8) ++ code ∷ [])) (checksum_of payload)) (omega arith) (xor_of_8 (checksum_of (primary_header id (length payload + 8) ++ code ∷ [])) (checksum_of payload) (fold_is_byte 0 (primary_header id (length payload + 8) ++ code ∷ []) (omega arith) front) (fold_is_byte 0 payload (omega arith) all)) in
    let behind : AllByRecursion IsByte (bit_xor 255 (bit_xor (checksum_of (primary_header id (length payload + 8) ++ code ∷ [])) (checksum_of payload)) ∷ payload) = (sum, all) in
    all_append IsByte (primary_header id (length payload + 8) ++ code ∷ []) (bit_xor 255 (bit_xor (checksum_of (primary_header id (length payload + 8) ++ code ∷ [])) (checksum_of payload)) ∷ payload) front behind

four_are_bytes : (n : ℕ) → AllByRecursion IsByte (be32_bytes n)
unfolding be32_bytes
four_are_bytes n = (omega arith, (omega arith, (omega arith, (omega arith, tt))))

-- a packet without a fault, of few bytes
pub record IsGoodPacket (p : List ℕ) : Type 0 where
  pub good : fault_of p ≡ None
  pub bytes : AllByRecursion IsByte p
  pub some : 0 < length p
  pub few : length p ≤ 20

peek_is_good : (e : ℕ) → IsGoodPacket (command_of 0x1888 2 (8 ∷ be32_bytes e))
unfolding fault_of command_of with_checksum primary_header be16_bytes be32_bytes version_of sequence_flags length_field be16_at
peek_is_good e = record { good = refl; bytes = command_is_bytes 0x1888 2 (8 ∷ be32_bytes e) (omega arith) (omega arith, four_are_bytes e); some = omega arith; few = omega arith }

poke_is_good : (e v : ℕ) → IsGoodPacket (command_of 0x1888 3 (8 ∷ be32_bytes e ++ be32_bytes v))
unfolding fault_of command_of with_checksum primary_header be16_bytes be32_bytes version_of sequence_flags length_field be16_at
poke_is_good e v = record {
  good = refl;
  bytes = command_is_bytes 0x1888 3 (8 ∷ be32_bytes e ++ be32_bytes v) (omega arith) (omega arith, all_append IsByte (be32_bytes e) (be32_bytes v) (four_are_bytes e) (four_are_bytes v));
  some = omega arith;
  few = omega arith;
}

fill_is_good : (e n b : ℕ) → b < 256 → IsGoodPacket (command_of 0x1888 8 (be32_bytes e ++ be32_bytes n ++ b ∷ []))
unfolding fault_of command_of with_checksum primary_header be16_bytes be32_bytes version_of sequence_flags length_field be16_at
fill_is_good e n b small = record {
  good = refl;
  bytes = command_is_bytes 0x1888 8 (be32_bytes e ++ be32_bytes n ++ b ∷ []) (omega arith)
      (all_append IsByte (be32_bytes e) (be32_bytes n ++ b ∷ []) (four_are_bytes e) (all_append IsByte (be32_bytes n) (b ∷ []) (four_are_bytes n) (small, tt)));
  some = omega arith;
  few = omega arith;
}

-- each command that is drawn
pub drawn_is_good : (d e : ℕ) → IsGoodPacket (command_drawn d e)
unfolding command_drawn
drawn_is_good d e = by_tests (d % 3 == 0) (d % 3 == 1)
  where
    by_tests : (first second : Bool)
        → IsGoodPacket (if first then command_of 0x1888 2 (8 ∷ be32_bytes e) else if second then command_of 0x1888 3 (8 ∷ be32_bytes e ++ be32_bytes (d % 256)) else command_of 0x1888 8 (be32_bytes (e % 32768) ++ be32_bytes (1 + d % 256) ++ e % 256 ∷ []))
    by_tests true second = peek_is_good e
    by_tests false true = poke_is_good e (d % 256)
    by_tests false false = fill_is_good (e % 32768) (1 + d % 256) (e % 256) (omega arith)

-- ---- draws

-- an address that is drawn lies in the first region
pub drawn_is_mapped : (x : ℕ) → (draws_of x).c < 65536
unfolding draws_of drawn upper drawn_behind
drawn_is_mapped x = by_test (upper (drawn (drawn x)) % 4 == 0)
  where
    below : (n : ℕ) → n % 4294967296 / 65536 < 65536
    below n = omega arith

    by_test : (t : Bool) → upper (if t then drawn (drawn (drawn x)) else drawn (drawn x)) < 65536
    by_test true = below (1664525 * drawn (drawn x) + 1013904223)
    by_test false = below (1664525 * drawn x + 1013904223)

-- ---- lines

-- a counter for LOAD
abbrev pub load_count : ℕ → Counter
load_count d = record { name = name_of (codes "LOAD"); value = d }

packet_good : (p : List ℕ) → fault_of p ≡ None → packet_said p ≡ Ok (says.Send p)
packet_good p good = rw (good, packet_said, packet_of) refl

pub send_says : (place : Place) (p : List ℕ) → is_in_frames place ≡ true → IsGoodPacket p → line_says place (codes "send" ++ 32 ∷ upper_hex p) ≡ Ok (Some (says.Send p))
unfolding line_says said verb_at verb_of sentence_of send_said
send_says place p inside good =
    let size = hex_length p in
    let parts = two_words (codes "send") (upper_hex p) (omega arith, (omega arith, (omega arith, (omega arith, tt)))) (hex_is_plain p) (omega arith) (omega (arith, size, good.some)) in
    rw (parts, inside, hex_is_bytes p good.bytes, packet_good p good.good) refl

pub upset_says : (place : Place) (at value : ℕ) → is_in_frames place ≡ true → at < 65536 → value < 256 → line_says place (codes "upset" ++ 32 ∷ (decimal at ++ 32 ∷ decimal value)) ≡ Ok (Some (says.Upset (record { at = at; value = value })))
unfolding line_says said verb_at verb_of sentence_of upset_said number_or_bad
upset_says place at value inside mapped small =
    let a : at < 4294967296 = omega (arith, mapped) in
    let b : value < 4294967296 = omega (arith, small) in
    let parts = three_words (codes "upset") (decimal at) (decimal value) (omega arith, (omega arith, (omega arith, (omega arith, (omega arith, tt))))) (digits_are_plain (decimal at) (own at a)) (digits_are_plain (decimal value) (own value b))
    (omega arith) (some_digits at a) (some_digits value b) in
    rw (parts, inside, decimal_is_number 4294967295 at (omega (arith, mapped)) a, decimal_is_number 255 value (omega (arith, small)) b) refl

pub load_says : (place : Place) (d : ℕ) → is_in_frames place ≡ true → d < 4 → line_says place (codes "app" ++ 32 ∷ (codes "LOAD" ++ 32 ∷ decimal d)) ≡ Ok (Some (says.Count (load_count d)))
unfolding line_says said verb_at verb_of sentence_of app_line name_said is_name_text number_or_bad
load_says place d inside small =
    let a : d < 4294967296 = omega (arith, small) in
    let parts = three_words (codes "app") (codes "LOAD") (decimal d) (omega arith, (omega arith, (omega arith, tt))) (omega arith, (omega arith, (omega arith, (omega arith, tt)))) (digits_are_plain (decimal d) (own d a))
    (omega arith) (omega arith) (some_digits d a) in
    rw (parts, inside, decimal_is_number 4294967295 d (omega (arith, small)) a) refl

pub tick_says : (place : Place) → is_in_frames place ≡ true → line_says place (codes "tick") ≡ Ok (Some says.Tick)
unfolding line_says said words verb_at verb_of sentence_of
tick_says place inside = rw inside refl

pub end_says : line_says places.Between (codes "end") ≡ Ok (Some says.End)
unfolding line_says said words verb_at verb_of sentence_of
end_says = refl
