-- Both kinds of entries are spelled as they are read.
use Rattle.std.proofs.Common.{◌≡◌, ℕ, ◌+◌, ◌*◌, ◌/◌, ◌%◌, ◌^◌, ◌<◌, ◌≤◌, true, false, List, [], ◌∷◌, ◌++◌, length, drop, get_or, None, inl, inr, refl, sym, ap, ◌∙◌, arith, append_assoc, length-append}
use Rattle.std.specs.Prelude.{◌==◌, nat_eq, slice_index}
use Rattle.std.specs.List.{All, list_all, list_any, IsDistinct}
use Rattle.std.proofs.lemmas.Bool.{cases_Bool, cases_eq, and_left, and_right, ne_eqb, le-leb, le-ltb, eqb-true, eqb-false}
use Rattle.std.proofs.lemmas.List.{append-nil, take-append-drop, drop-drop, take_at, get_or_append_left, get_or_at, map-append}
use Rattle.std.proofs.lemmas.List.Elements.{All-nil, All-cons, All-head, All-tail}
use Rattle.std.proofs.lemmas.List.Folds.{Any-from_list_any}
use Rattle.std.proofs.lemmas.Map.Keys.{apart_from_distinct}
use Rattle.packet_forms.specs.Numbers.{be16_at, be32_at, be16_bytes, be32_bytes}
use Rattle.packet_forms.specs.Packets.{IsPacket, message_id, version_of, sequence_flags, is_command}
use Rattle.sc_tables.specs.declared.absolute.Timed.{Timed}
use Rattle.sc_tables.specs.declared.relative.Relative.{Relative}
use Rattle.sc_tables.specs.Heads.{packet_size, is_command_head, packet_reason, packet_of}
use Rattle.sc_tables.specs.Grammar.{is_end}
use Rattle.sc_tables.specs.Absolute.{timed_at, timed_size, timed_reason, timed_form, numbers_of, is_used}
use Rattle.sc_tables.specs.Relative.{relative_at, relative_size, relative_reason, relative_form}
use Rattle.sc_tables.specs.Spelling.{IsTimed, timed_spelled, IsRelative, relative_spelled}
use Rattle.sc_tables.proofs.Fronts.{IsTimedFront, IsRelativeFront, version_kept, flags_kept, command_kept, field_kept, front_packet, front_command, timed_front, timed_unused, timed_sized, relative_front, relative_sized}
use Rattle.sc_tables.proofs.Stored.{sound, number_at, apart_more}
use Rattle.sc_tables.proofs.Spelled.{AreBytes, Tells, IsTaken, IsSpelling, Chain}

-- two bytes are those of their number, and four
two_bytes : (a b : ℕ) → a < 256 → b < 256 → be16_bytes (a * 256 + b) ≡ a ∷ b ∷ []
unfolding be16_bytes
two_bytes a b high low =
    let first : (a * 256 + b) / 256 % 256 ≡ a = omega arith in
    let second : (a * 256 + b) % 256 ≡ b = omega arith in
    rw (first, second) refl

four_bytes : (a b c d : ℕ) → a < 256 → b < 256 → c < 256 → d < 256 → be32_bytes (a * 16777216 + b * 65536 + c * 256 + d) ≡ a ∷ b ∷ c ∷ d ∷ []
unfolding be32_bytes
four_bytes a b c d one two three four =
    let first : (a * 16777216 + b * 65536 + c * 256 + d) / 16777216 % 256 ≡ a = omega arith in
    let second : (a * 16777216 + b * 65536 + c * 256 + d) / 65536 % 256 ≡ b = omega arith in
    let third : (a * 16777216 + b * 65536 + c * 256 + d) / 256 % 256 ≡ c = omega arith in
    let fourth : (a * 16777216 + b * 65536 + c * 256 + d) % 256 ≡ d = omega arith in
    rw (first, second, third, fourth) refl

-- what stands before the packet is spelled by its numbers
two_before : (bytes : List ℕ) → AreBytes bytes → 2 ≤ length bytes → bytes ≡ be16_bytes (be16_at bytes 0) ++ drop 2 bytes
unfolding be16_at
two_before [] are long = absurd (omega arith)
two_before (a ∷ []) are long = absurd (omega arith)
two_before (a ∷ b ∷ rest) are long = rw (two_bytes a b (are 0 0 (omega arith)) (are 1 0 (omega arith))) refl

six_before : (bytes : List ℕ) → AreBytes bytes → 6 ≤ length bytes → bytes ≡ be16_bytes (be16_at bytes 0) ++ (be32_bytes (be32_at bytes 2) ++ drop 6 bytes)
unfolding be16_at be32_at
six_before (a ∷ b ∷ c ∷ d ∷ e ∷ f ∷ rest) are long =
    rw (two_bytes a b (are 0 0 (omega arith)) (are 1 0 (omega arith)), four_bytes c d e f (are 2 0 (omega arith)) (are 3 0 (omega arith)) (are 4 0 (omega arith)) (are 5 0 (omega arith))) refl
six_before (a ∷ b ∷ c ∷ d ∷ e ∷ []) are long = absurd (omega arith)
six_before (a ∷ b ∷ c ∷ d ∷ []) are long = absurd (omega arith)
six_before (a ∷ b ∷ c ∷ []) are long = absurd (omega arith)
six_before (a ∷ b ∷ []) are long = absurd (omega arith)
six_before (a ∷ []) are long = absurd (omega arith)
six_before [] are long = absurd (omega arith)

-- a packet and what stands behind it
cut : (bytes : List ℕ) → packet_of bytes ++ drop (packet_size bytes) bytes ≡ bytes
unfolding packet_of
cut bytes = take-append-drop (packet_size bytes) bytes

four_small : (bytes : List ℕ) → AreBytes bytes → 6 ≤ length bytes → be32_at bytes 2 < 2 ^ 32
unfolding be32_at
four_small bytes are long = omega (arith, are 2 0 (omega arith), are 3 0 (omega arith), are 4 0 (omega arith), are 5 0 (omega arith))

two_small : (bytes : List ℕ) → AreBytes bytes → 2 ≤ length bytes → be16_at bytes 0 < 2 ^ 16
unfolding be16_at
two_small bytes are long = omega (arith, are 0 0 (omega arith), are 1 0 (omega arith))

-- what an entry tells
abbrev pub TimedFits : List Timed → Timed → Type 0
TimedFits done c = IsTimed c × (is_used c.number done ≡ false)

timed_bytes : (bytes : List ℕ) → AreBytes bytes → 14 ≤ length bytes → bytes ≡ timed_spelled (timed_at bytes) ++ drop (timed_size bytes) bytes
unfolding timed_spelled timed_at timed_size
timed_bytes bytes are long =
    let n : List ℕ = be16_bytes (be16_at bytes 0) in
    let t : List ℕ = be32_bytes (be32_at bytes 2) in
    let p : List ℕ = packet_of (drop 6 bytes) in
    let r : List ℕ = drop (6 + packet_size (drop 6 bytes)) bytes in
    let behind : drop 6 bytes ≡ p ++ r = sym (cut (drop 6 bytes)) ∙ ap (λ (b : List ℕ). p ++ b) (drop-drop (packet_size (drop 6 bytes)) 6 bytes) in
    six_before bytes are (omega arith) ∙ (ap (λ (b : List ℕ). n ++ (t ++ b)) behind ∙ sym (append_assoc n (t ++ p) r ∙ ap (λ (b : List ℕ). n ++ b) (append_assoc t p r)))

timed_good : (bytes : List ℕ) → AreBytes bytes → IsTimedFront bytes → IsTimed (timed_at bytes)
unfolding timed_at
timed_good bytes are front = record {
  least = front.least;
  most = front.most;
  time = four_small bytes are (omega arith);
  packet = front_packet (drop 6 bytes) front.front;
  command = front_command (drop 6 bytes) front.front;
}

timed_tells : (done : List Timed) (bytes : List ℕ) → AreBytes bytes → timed_reason done bytes ≡ None → Tells timed_form timed_spelled TimedFits done bytes
timed_tells done bytes are none =
    let passes = sound (timed_reason done bytes) none in
    let front = timed_front done bytes passes in
    let sized = timed_sized bytes front in
    let unused : is_used (timed_at bytes).number done ≡ false = rw (number_at bytes) (timed_unused done bytes passes) in
    record { bytes_are = timed_bytes bytes are front.long; fits = (timed_good bytes are front, unused); least = omega arith }

relative_bytes : (bytes : List ℕ) → AreBytes bytes → 10 ≤ length bytes → bytes ≡ relative_spelled (relative_at bytes) ++ drop (relative_size bytes) bytes
unfolding relative_spelled relative_at relative_size
relative_bytes bytes are long =
    let s : List ℕ = be16_bytes (be16_at bytes 0) in
    let p : List ℕ = packet_of (drop 2 bytes) in
    let r : List ℕ = drop (2 + packet_size (drop 2 bytes)) bytes in
    let behind : drop 2 bytes ≡ p ++ r = sym (cut (drop 2 bytes)) ∙ ap (λ (b : List ℕ). p ++ b) (drop-drop (packet_size (drop 2 bytes)) 2 bytes) in
    two_before bytes are (omega arith) ∙ (ap (λ (b : List ℕ). s ++ b) behind ∙ sym (append_assoc s p r))

relative_good : (bytes : List ℕ) → AreBytes bytes → IsRelativeFront bytes → IsRelative (relative_at bytes)
unfolding relative_at
relative_good bytes are front = record {
  seconds = two_small bytes are (omega arith);
  packet = front_packet (drop 2 bytes) front.front;
  command = front_command (drop 2 bytes) front.front;
}

abbrev pub RelativeFits : List Relative → Relative → Type 0
RelativeFits done c = IsRelative c

relative_tells : (done : List Relative) (bytes : List ℕ) → AreBytes bytes → relative_reason bytes ≡ None → Tells relative_form relative_spelled RelativeFits done bytes
relative_tells done bytes are none =
    let front = relative_front bytes (sound (relative_reason bytes) none) in
    let sized = relative_sized bytes front in
    record { bytes_are = relative_bytes bytes are front.long; fits = relative_good bytes are front; least = omega arith }

-- what is spelled is taken: a command packet that other bytes follow
kept_front : (p rest : List ℕ) (i : ℕ) → i < length p → slice_index (p ++ rest) i ≡ slice_index p i
kept_front p rest i below = get_or_append_left p rest 0 i below

pub record IsFound (p rest : List ℕ) : Type 0 where
  pub size : packet_size (p ++ rest) ≡ length p
  pub sound : packet_reason (p ++ rest) ≡ None
  pub bytes : packet_of (p ++ rest) ≡ p
  pub going : is_end (p ++ rest) ≡ false

found_size : (p rest : List ℕ) → IsPacket p → packet_size (p ++ rest) ≡ length p
unfolding packet_size
found_size p rest is =
    let long = is.long in
    field_kept p (p ++ rest) (kept_front p rest 4 (omega arith)) (kept_front p rest 5 (omega arith)) ∙ is.field

found_sound : (p rest : List ℕ) → IsPacket p → is_command p ≡ true → packet_size (p ++ rest) ≡ length p → packet_reason (p ++ rest) ≡ None
unfolding packet_reason is_command_head
found_sound p rest is command size =
    let long = is.long in
    let version : version_of (p ++ rest) ≡ 0 = version_kept p (p ++ rest) (kept_front p rest 0 (omega arith)) ∙ is.version in
    let flags : sequence_flags (p ++ rest) ≡ 3 = flags_kept p (p ++ rest) (kept_front p rest 2 (omega arith)) ∙ is.whole in
    let kind : is_command (p ++ rest) ≡ true = command_kept p (p ++ rest) (kept_front p rest 0 (omega arith)) (kept_front p rest 1 (omega arith)) ∙ command in
    rw (version, flags, kind, size, le-leb 8 (length p) is.long, le-leb (length p) 256 is.short, le-ltb (length (p ++ rest)) (length p) (omega (arith, length-append p rest))) refl

found_bytes : (p rest : List ℕ) → packet_size (p ++ rest) ≡ length p → packet_of (p ++ rest) ≡ p
unfolding packet_of
found_bytes p rest size = rw size (take_at p rest (length p) refl)

later_going : (b : ℕ) (bytes : List ℕ) → is_end bytes ≡ false → is_end (b ∷ bytes) ≡ false
unfolding is_end
later_going b bytes going = and_right (b == 0) (list_all (λ x. x == 0) bytes) going

first_going : (b : ℕ) (bytes : List ℕ) → (b ≡ 0 → ⊥) → is_end (b ∷ bytes) ≡ false
unfolding is_end
first_going b bytes some = and_left (b == 0) (list_all (λ x. x == 0) bytes) (ne_eqb b 0 some)

-- two bytes of which one isn't zero
two_going : (a b : ℕ) (bytes : List ℕ) → (a ≡ 0 → b ≡ 0 → ⊥) → is_end (a ∷ b ∷ bytes) ≡ false
two_going a b bytes some =
    elim (cases_eq a 0) [
      | inl none ↦ later_going a (b ∷ bytes) (first_going b bytes (some none))
      | inr other ↦ first_going a (b ∷ bytes) other
    ]

found_going : (p rest : List ℕ) → 8 ≤ length p → is_command p ≡ true → is_end (p ++ rest) ≡ false
unfolding is_command message_id be16_at
found_going [] rest long command = absurd (omega arith)
found_going (a ∷ []) rest long command = absurd (omega arith)
found_going (a ∷ b ∷ p) rest long command = two_going a b (p ++ rest) (λ one two. omega (arith, eqb-true _ 3 command))

found : (p rest : List ℕ) → IsPacket p → is_command p ≡ true → IsFound p rest
found p rest is command =
    let size = found_size p rest is in
    record { size = size; sound = found_sound p rest is command size; bytes = found_bytes p rest size; going = found_going p rest is.long command }

-- an entry's numbers that other bytes follow
abbrev six_then : ℕ → ℕ → List ℕ → List ℕ
six_then n t bytes = be16_bytes n ++ (be32_bytes t ++ bytes)

timed_then : (c : Timed) (rest : List ℕ) → timed_spelled c ++ rest ≡ six_then c.number c.tag (c.packet ++ rest)
unfolding timed_spelled
timed_then c rest =
    append_assoc (be16_bytes c.number) (be32_bytes c.tag ++ c.packet) rest ∙ ap (λ (b : List ℕ). be16_bytes c.number ++ b) (append_assoc (be32_bytes c.tag) c.packet rest)

number_then : (n t : ℕ) (bytes : List ℕ) → n < 2 ^ 16 → be16_at (six_then n t bytes) 0 ≡ n
unfolding be16_bytes be32_bytes be16_at
number_then n t bytes small = omega arith

time_then : (n t : ℕ) (bytes : List ℕ) → t < 2 ^ 32 → be32_at (six_then n t bytes) 2 ≡ t
unfolding be16_bytes be32_bytes be32_at
time_then n t bytes small = omega arith

rest_then : (n t : ℕ) (bytes : List ℕ) → drop 6 (six_then n t bytes) ≡ bytes
unfolding be16_bytes be32_bytes
rest_then n t bytes = refl

long_then : (n t : ℕ) (bytes : List ℕ) → length (six_then n t bytes) ≡ 6 + length bytes
unfolding be16_bytes be32_bytes
long_then n t bytes = omega arith

going_then : (n t : ℕ) (bytes : List ℕ) → 1 ≤ n → n < 2 ^ 16 → is_end (six_then n t bytes) ≡ false
unfolding be16_bytes
going_then n t bytes some small = two_going (n / 256 % 256) (n % 256) (be32_bytes t ++ bytes) (λ high low. omega arith)

timed_length : (c : Timed) → length (timed_spelled c) ≡ 6 + length c.packet
unfolding timed_spelled be16_bytes be32_bytes
timed_length c = omega arith

taken_reason : (done : List Timed) (n t : ℕ) (bytes : List ℕ) → 1 ≤ n → n ≤ 1000 → is_used n done ≡ false → 8 ≤ length bytes → packet_reason bytes ≡ None → timed_reason done (six_then n t bytes) ≡ None
unfolding timed_reason
taken_reason done n t bytes least most unused long sound =
    let number = number_then n t bytes (omega arith) in
    rw (le-ltb (length (six_then n t bytes)) 14 (omega (arith, long_then n t bytes)), number, le-leb 1 n least, le-leb n 1000 most, unused, rest_then n t bytes, sound) refl

taken_entry : (c : Timed) (bytes : List ℕ) → c.number ≤ 1000 → c.tag < 2 ^ 32 → packet_of bytes ≡ c.packet → timed_at (six_then c.number c.tag bytes) ≡ c
unfolding timed_at
taken_entry c bytes most time packet = rw (number_then c.number c.tag bytes (omega arith), time_then c.number c.tag bytes time, rest_then c.number c.tag bytes, packet) refl

taken_size : (c : Timed) (bytes : List ℕ) → packet_size bytes ≡ length c.packet → timed_size (six_then c.number c.tag bytes) ≡ length (timed_spelled c)
unfolding timed_size
taken_size c bytes size = rw (rest_then c.number c.tag bytes, size, timed_length c) refl

timed_taken : (done : List Timed) (c : Timed) (rest : List ℕ) → TimedFits done c → IsTaken timed_form timed_spelled done c rest
timed_taken done c rest fits =
    let good = fits.0 in
    let least = good.least in let most = good.most in
    let packet = found c.packet rest good.packet good.command in
    let long = good.packet.long in
    let whole = timed_then c rest in
    record {
      going = rw whole (going_then c.number c.tag (c.packet ++ rest) good.least (omega arith));
      sound = rw whole (taken_reason done c.number c.tag (c.packet ++ rest) good.least good.most fits.1 (omega (arith, length-append c.packet rest)) packet.sound);
      entry = rw whole (taken_entry c (c.packet ++ rest) good.most good.time packet.bytes);
      size = rw whole (taken_size c (c.packet ++ rest) packet.size);
      least = omega (arith, timed_length c);
    }

pub timed_spelling : IsSpelling timed_form timed_spelled TimedFits
timed_spelling = record { tells = timed_tells; takes = timed_taken }

-- and of a relative one
relative_then : (c : Relative) (rest : List ℕ) → relative_spelled c ++ rest ≡ be16_bytes c.tag ++ (c.packet ++ rest)
unfolding relative_spelled
relative_then c rest = append_assoc (be16_bytes c.tag) c.packet rest

seconds_then : (s : ℕ) (bytes : List ℕ) → s < 2 ^ 16 → be16_at (be16_bytes s ++ bytes) 0 ≡ s
unfolding be16_bytes be16_at
seconds_then s bytes small = omega arith

behind_then : (s : ℕ) (bytes : List ℕ) → drop 2 (be16_bytes s ++ bytes) ≡ bytes
unfolding be16_bytes
behind_then s bytes = refl

longer_then : (s : ℕ) (bytes : List ℕ) → length (be16_bytes s ++ bytes) ≡ 2 + length bytes
unfolding be16_bytes
longer_then s bytes = omega arith

ongoing_then : (s : ℕ) (bytes : List ℕ) → is_end bytes ≡ false → is_end (be16_bytes s ++ bytes) ≡ false
unfolding be16_bytes
ongoing_then s bytes going = later_going (s / 256 % 256) (s % 256 ∷ bytes) (later_going (s % 256) bytes going)

relative_length : (c : Relative) → length (relative_spelled c) ≡ 2 + length c.packet
unfolding relative_spelled be16_bytes
relative_length c = omega arith

relative_sound : (s : ℕ) (bytes : List ℕ) → 8 ≤ length bytes → packet_reason bytes ≡ None → relative_reason (be16_bytes s ++ bytes) ≡ None
unfolding relative_reason
relative_sound s bytes long sound = rw (le-ltb (length (be16_bytes s ++ bytes)) 10 (omega (arith, longer_then s bytes)), behind_then s bytes, sound) refl

relative_entry : (c : Relative) (bytes : List ℕ) → c.tag < 2 ^ 16 → packet_of bytes ≡ c.packet → relative_at (be16_bytes c.tag ++ bytes) ≡ c
unfolding relative_at
relative_entry c bytes small packet = rw (seconds_then c.tag bytes small, behind_then c.tag bytes, packet) refl

relative_sizes : (c : Relative) (bytes : List ℕ) → packet_size bytes ≡ length c.packet → relative_size (be16_bytes c.tag ++ bytes) ≡ length (relative_spelled c)
unfolding relative_size
relative_sizes c bytes size = rw (behind_then c.tag bytes, size, relative_length c) refl

relative_taken : (done : List Relative) (c : Relative) (rest : List ℕ) → RelativeFits done c → IsTaken relative_form relative_spelled done c rest
relative_taken done c rest good =
    let packet = found c.packet rest good.packet good.command in
    let long = good.packet.long in
    let whole = relative_then c rest in
    record {
      going = rw whole (ongoing_then c.tag (c.packet ++ rest) packet.going);
      sound = rw whole (relative_sound c.tag (c.packet ++ rest) (omega (arith, length-append c.packet rest)) packet.sound);
      entry = rw whole (relative_entry c (c.packet ++ rest) good.seconds packet.bytes);
      size = rw whole (relative_sizes c (c.packet ++ rest) packet.size);
      least = omega (arith, relative_length c);
    }

pub relative_spelling : IsSpelling relative_form relative_spelled RelativeFits
relative_spelling = record { tells = relative_tells; takes = relative_taken }

-- commands that fit one behind another are good, and have numbers that are apart
pub timed_all : (done commands : List Timed) → Chain TimedFits done commands → All IsTimed commands
timed_all done [] chain = All-nil IsTimed
timed_all done (c ∷ commands) chain = All-cons IsTimed c commands chain.0.0 (timed_all (done ++ c ∷ []) commands chain.1)

pub timed_apart : (done commands : List Timed) → Chain TimedFits done commands → IsDistinct nat_eq (numbers_of done) → IsDistinct nat_eq (numbers_of (done ++ commands))
timed_apart done [] chain apart = rw (append-nil done) apart
timed_apart done (c ∷ commands) chain apart =
    rw (← append_assoc done (c ∷ []) commands) (timed_apart (done ++ c ∷ []) commands chain.1 (apart_more done c apart chain.0.1))

not_twice : (ns ms : List ℕ) (n : ℕ) → IsDistinct nat_eq (ns ++ n ∷ ms) → list_any (nat_eq n) ns ≡ true → ⊥
not_twice ns ms n apart used =
    let at = Any-from_list_any (nat_eq n) ns used in
    let k : ℕ = at.0 in
    let x : ℕ = at.1 in
    let long : length (ns ++ n ∷ ms) ≡ length ns + length (n ∷ ms) = length-append ns (n ∷ ms) in
    let there : get_or (ns ++ n ∷ ms) k x ≡ x = get_or_append_left ns (n ∷ ms) x k at.2 ∙ at.3 in
    let here : get_or (ns ++ n ∷ ms) (length ns) x ≡ n = get_or_at ns n ms x (length ns) refl in
    let below : k < length ns = at.2 in
    eqb-false _ _ (apart_from_distinct nat_eq (ns ++ n ∷ ms) k (length ns) x apart below (omega arith)) (there ∙ (sym (eqb-true n x at.4) ∙ sym here))

unused : (done commands : List Timed) (c : Timed) → IsDistinct nat_eq (numbers_of (done ++ c ∷ commands)) → is_used c.number done ≡ false
unused done commands c apart =
    elim (cases_Bool (is_used c.number done)) [
      | inr free ↦ free
      | inl used ↦ absurd (not_twice (numbers_of done) (numbers_of commands) c.number (rw (map-append (λ (d : Timed). d.number) done (c ∷ commands)) at apart) used)
    ]

pub timed_chain : (done commands : List Timed) → All IsTimed commands → IsDistinct nat_eq (numbers_of (done ++ commands)) → Chain TimedFits done commands
timed_chain done [] good apart = tt
timed_chain done (c ∷ commands) good apart = (
  (All-head IsTimed c commands good, unused done commands c apart),
  timed_chain (done ++ c ∷ []) commands (All-tail IsTimed c commands good) (rw (append_assoc done (c ∷ []) commands) apart),
)

pub relative_all : (done commands : List Relative) → Chain RelativeFits done commands → All IsRelative commands
relative_all done [] chain = All-nil IsRelative
relative_all done (c ∷ commands) chain = All-cons IsRelative c commands chain.0 (relative_all (done ++ c ∷ []) commands chain.1)

pub relative_chain : (done commands : List Relative) → All IsRelative commands → Chain RelativeFits done commands
relative_chain done [] good = tt
relative_chain done (c ∷ commands) good = (All-head IsRelative c commands good, relative_chain (done ++ c ∷ []) commands (All-tail IsRelative c commands good))
