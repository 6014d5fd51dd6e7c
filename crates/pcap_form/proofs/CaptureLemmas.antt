-- Lemmas on records that are read back.
use Rattle.std.proofs.Common.{◌≡◌, ℕ, ◌+◌, ◌-◌, ◌*◌, ◌/◌, ◌%◌, ◌<◌, true, List, [], ◌∷◌, ◌++◌, length, take, drop, Some, refl, ◌∙◌, arith, length-append}
use Rattle.std.specs.Prelude.{◌==◌, nat_le}
use Rattle.std.specs.List.{flat_map, AllByRecursion}
use Rattle.std.proofs.lemmas.Bool.Decides.{nat_tests}
use Rattle.std.proofs.Math.Seq.{take-append_seam, drop-append_seam}
use Rattle.packet_forms.specs.Numbers.{be32_at, be32_bytes}
use Rattle.pcap_form.specs.Captures.{Stamped, IsStamped, dissector, record_header, stamped, record_said, first_in, AreIn}

whole32 : (n : ℕ) → n < 4294967296 → n / 16777216 % 256 * 16777216 + n / 65536 % 256 * 65536 + n / 256 % 256 * 256 + n % 256 ≡ n
whole32 n h = omega (arith, h)

-- the numbers of a header and a packet say the packet
said_back : (seconds size : ℕ) (packet rest : List ℕ) → size ≡ length packet + 16
    → record_said seconds 0 size size dissector (packet ++ rest) ≡ Some (record { seconds = seconds; packet = packet }, rest)
said_back seconds size packet rest is =
    let least : nat_le 16 size ≡ true = grind (arith, nat_tests) in
    let less : size - 16 ≡ length packet = omega (arith, is) in
    let total : length (packet ++ rest) ≡ length packet + length rest = length-append packet rest in
    let fits : nat_le (length packet) (length (packet ++ rest)) ≡ true = grind (arith, nat_tests) in
    let same : (size == size) ≡ true = grind (arith, nat_tests) in
    let front : take (length packet) (packet ++ rest) ≡ packet = take-append_seam packet rest in
    let back : drop (length packet) (packet ++ rest) ≡ rest = drop-append_seam packet rest in
    rw (less, least, fits, same, front, back) refl

-- what the bytes of a record say, by its numbers
first_said : (s : Stamped) (rest : List ℕ) → s.seconds < 4294967296 → length s.packet + 16 < 4294967296
    → first_in (stamped s ++ rest) ≡ record_said s.seconds 0 (length s.packet + 16) (length s.packet + 16) dissector (s.packet ++ rest)
unfolding first_in stamped record_header be32_at be32_bytes
first_said s rest early small =
    let seconds = whole32 s.seconds early in
    let size = whole32 (length s.packet + 16) small in
    rw (seconds, size) refl

pub first_back : (s : Stamped) (rest : List ℕ) → IsStamped s → first_in (stamped s ++ rest) ≡ Some (s, rest)
first_back s rest is =
    let early : s.seconds < 4294967296 = is.seconds in
    let small : length s.packet + 16 < 4294967296 = omega (arith, is.size) in
    first_said s rest early small ∙ said_back s.seconds (length s.packet + 16) s.packet rest refl

pub all_back : (packets : List Stamped) → AllByRecursion IsStamped packets → AreIn (flat_map stamped packets) packets
unfolding AreIn
all_back [] all = refl
all_back (s ∷ packets) all = (flat_map stamped packets, first_back s (flat_map stamped packets) all.0, all_back packets all.1)
