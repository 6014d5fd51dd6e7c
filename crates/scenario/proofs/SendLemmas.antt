-- What the word behind `send` says.
use Rattle.std.proofs.Common.{◌≡◌, ℕ, ◌<◌, true, false, nat_lt, List, [], ◌∷◌, length, take, Option, Some, None, Result, Ok, Err, refl, sym, ap, ◌∙◌, arith}
use Rattle.std.specs.Prelude.{option_map, IfSome}
use Rattle.std.proofs.lemmas.Bool.Decides.{nat_tests}
use Rattle.packet_forms.specs.declared.packet.PacketFault.{PacketFault}
use Rattle.packet_forms.specs.declared.packet.PacketFault.TheVariants as faults
use Rattle.packet_forms.specs.Faults.{fault_of}
use Rattle.scenario.specs.declared.reason.Reason.{Reason}
use Rattle.scenario.specs.declared.reason.Reason.TheVariants as reasons
use Rattle.scenario.specs.declared.sentence.Sentence.{Sentence}
use Rattle.scenario.specs.declared.sentence.Sentence.TheVariants as says
use Rattle.scenario.specs.Words.{words, hex}
use Rattle.scenario.specs.Sentences.{◌>>=◌, or_bad, one, packet_of, as_said, hex_said, send_line}
use Rattle.scenario.proofs.WordsLemmas.{hex_word, hex_alone}

-- what digits say that write these bytes
abbrev written : Option (List ℕ) → Result Sentence Reason
written bytes = or_bad reasons.Packet bytes >>= (λ some_bytes. packet_of some_bytes >>= (λ packet. Ok (says.Send packet)))

long_fault : (bytes : List ℕ) → 256 < length bytes → fault_of bytes ≡ Some faults.Long
unfolding fault_of
long_fault bytes long =
    let enough : nat_lt (length bytes) 8 ≡ false = grind (arith, nat_tests) in
    let over : nat_lt 256 (length bytes) ≡ true = grind (arith, nat_tests) in
    rw (enough, over) refl

faulty : (bytes : List ℕ) (fault : PacketFault) → fault_of bytes ≡ Some fault → packet_of bytes ≡ Err reasons.Packet
faulty bytes fault e = ap (λ (f : Option PacketFault). (let x : Result (List ℕ) Reason = elim f [ None ↦ Ok bytes | Some fault ↦ Err reasons.Packet ] in x)) e

-- over 512 digits are no packet
pub too_many_digits : (word : List ℕ) → 512 < length word → hex_said word ≡ Err reasons.Packet
unfolding hex_said
too_many_digits word long = of_bytes (hex word) refl where
  of_bytes : (bytes : Option (List ℕ)) → hex word ≡ bytes → written bytes ≡ Err reasons.Packet
  of_bytes None e = refl
  of_bytes (Some bytes) e =
      let over : 256 < length bytes = omega (arith, long, (hex_word word bytes e).1) in
      ap (λ (r : Result (List ℕ) Reason). r >>= (λ packet. (let x : Result Sentence Reason = Ok (says.Send packet) in x))) (faulty bytes faults.Long (long_fault bytes over))

digits_said : (word : List ℕ) (what : Option Sentence) → as_said (hex_said word) ≡ Ok what → (bytes : List ℕ) × (hex word ≡ Some bytes)
unfolding hex_said
digits_said word what e = of_bytes (hex word) refl e where
  of_bytes : (bytes : Option (List ℕ)) → hex word ≡ bytes → as_said (written bytes) ≡ Ok what → (bytes : List ℕ) × (hex word ≡ Some bytes)
  of_bytes None is e = absurd (cc)
  of_bytes (Some bytes) is e = (bytes, is)

nothing_said : (what : Option Sentence) → as_said (hex_said []) ≡ Ok what → ⊥
unfolding hex_said hex fault_of
nothing_said what e = absurd (cc)

-- the one word of a line
pub said_by_word : (line word : List ℕ) → one (words line) ≡ Ok word → send_line (words line) ≡ hex_said word
unfolding send_line hex_said
said_by_word line word e = ap (λ (r : Result (List ℕ) Reason). r >>= hex_said) e

-- what says a packet is the one word of its line
pub said_alone : (line word : List ℕ) (what : Option Sentence) → words word ≡ words line → as_said (hex_said word) ≡ Ok what → as_said (send_line (words line)) ≡ Ok what
said_alone line [] what same e = absurd (nothing_said what e)
said_alone line (x ∷ word) what same e =
    let bytes = digits_said (x ∷ word) what e in
    let alone : words line ≡ (x ∷ word) ∷ [] = sym same ∙ hex_alone (x ∷ word) bytes.0 (omega arith) bytes.1 in
    ap as_said (said_by_word line (x ∷ word) (ap one alone)) ∙ e

said_by_digits : (line word bytes : List ℕ) → words word ≡ words line → hex word ≡ Some bytes → packet_of bytes ≡ Ok bytes → as_said (send_line (words line)) ≡ Ok (Some (says.Send bytes))
unfolding hex_said
said_by_digits line word bytes same is good =
    said_alone line word (Some (says.Send bytes)) same (rw is (ap (λ (r : Result (List ℕ) Reason). as_said (r >>= (λ packet. (let x : Result Sentence Reason = Ok (says.Send packet) in x)))) good))

-- the bytes that are written by digits with which a line ends are said, where they are a packet
pub bytes_said : (line word places : List ℕ) (count : Option ℕ) → words word ≡ words line → option_map (λ n. take n places) count ≡ hex word
    → IfSome count (λ n. packet_of (take n places) ≡ Ok (take n places) → as_said (send_line (words line)) ≡ Ok (Some (says.Send (take n places))))
bytes_said line word places None same e = tt
bytes_said line word places (Some n) same e = λ good. said_by_digits line word (take n places) same (sym e) good
