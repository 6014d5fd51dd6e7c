-- Lemmas on words that are read back, and on what a word that says something is.
use Rattle.std.proofs.Common.{◌≡◌, ◌==◌, ◌&&◌, ℕ, ◌+◌, ◌*◌, ◌-◌, ◌/◌, ◌%◌, ◌<◌, ◌≤◌, Bool, true, false, List, [], ◌∷◌, ◌++◌, length, take, drop, Option, Some, None, refl, ap, sym, ◌∙◌, arith, if◌then◌else◌, length-take, length-drop}
use Rattle.std.specs.Prelude.{nat_lt, nat_le, replicate, decimal, codes, Ok, option_and_then}
use Rattle.std.specs.List.{AllByRecursion, list_all, position_or_len}
use Rattle.std.specs.Char.{is_digit}
use Rattle.std.specs.Str.{bytes_eq}
use Rattle.std.specs.Str.Parse.{AllDigits}
use Rattle.std.proofs.lemmas.Bool.Decides.{nat_tests}
use Rattle.std.proofs.lemmas.List.{take-append-drop}
use Rattle.std.proofs.lemmas.Slice.Eq.{bytes_eq-Decides}
use Rattle.std.proofs.lemmas.Str.Parse.{numerals_by_value, tells_digits}
use Rattle.std.proofs.lemmas.Fmt.{digits_decimal, digits_value-decimal, length-decimal-le, decimal_nonempty}
use Rattle.packet_forms.specs.Hex.{hex, hex_digit}
use Rattle.packet_forms.specs.Names.{is_name, is_name_byte, is_name_text, name_text, name_of}
use Rattle.packet_forms.specs.Faults.{fault_of}
use Rattle.packet_forms.specs.declared.packet.PacketFault.{PacketFault}
use Rattle.packet_forms.proofs.Forms.{packet_of_none, none_of_packet}
use Rattle.packet_forms.proofs.NameForms.{text_in, twenty, short_text, text-name_of, is_name-name_of}
use Rattle.bus_pipes.specs.declared.names.PipeName.{PipeName}
use Rattle.bus_pipes.specs.declared.names.PipeName.TheVariants as pipes
use Rattle.packet_log.specs.Lines.{pipe_text}
use Rattle.row_forms.specs.Words.{digits, before, name_said}
use Rattle.row_forms.proofs.TextLemmas.{IsPlain, and_both}
use Rattle.row_forms.proofs.WordsLemmas.{position_or_len-le}
use Rattle.log_lines.specs.Lines.{if_written, frame_said, digit_number, bytes_said, unless_fault, packet_of, packet_said, pipe_said, cause_said}
use Rattle.log_lines.specs.Texts.{IsPacketOfBytes}

pub same_word : (word : List ℕ) → bytes_eq word word ≡ true
same_word word = (bytes_eq-Decides word word).1 refl

-- ---- the number of a frame

digits_all : (ds : List ℕ) → AllDigits 10 ds → list_all (λ c. is_digit c 10) ds ≡ true
digits_all [] all = refl
digits_all (c ∷ cs) all =
    let first = all.0 in
    let here : is_digit c 10 ≡ true = grind (arith, nat_tests, first) in
    rw here (digits_all cs all.1)

pub own : (n : ℕ) → n < 4294967296 → AllDigits 10 (decimal n)
own n small = digits_decimal (numerals_by_value (AllDigits 10) tells_digits) n (omega (arith, small))

pub decimal_length : (n : ℕ) → n < 4294967296 → length (decimal n) ≤ 10
decimal_length n small = length-decimal-le 10 n (omega arith) (omega (arith, small)) (omega (arith, small))

digits_back : (n : ℕ) → n < 4294967296 → digits 10 10 (decimal n) ≡ Some n
unfolding digits
digits_back n small =
    let value = digits_value-decimal (numerals_by_value (AllDigits 10) tells_digits) n (omega (arith, small)) in
    let room = decimal_length n small in
    let some = decimal_nonempty n (omega (arith, small)) in
    let a : nat_lt 0 (length (decimal n)) ≡ true = grind (arith, nat_tests) in
    let b : nat_le (length (decimal n)) 10 ≡ true = grind (arith, nat_tests) in
    rw (a, b, digits_all (decimal n) (own n small), value) refl

pub frame_back : (n : ℕ) → n < 4294967296 → frame_said (decimal n) ≡ Some n
unfolding frame_said
frame_back n small =
    let a : nat_lt n 4294967296 ≡ true = grind (arith, nat_tests) in
    rw (digits_back n small, a, same_word (decimal n)) refl

if_exact : (word : List ℕ) (n m : ℕ) (a b : Bool) → nat_lt n 4294967296 ≡ a → bytes_eq (decimal n) word ≡ b → (if a && b then Some n else None) ≡ Some m → (word ≡ decimal m) × (m < 4294967296)
if_exact word n m true true e f h =
    let same : n ≡ m = cc in
    let text = (bytes_eq-Decides (decimal n) word).0 f in
    (sym text ∙ ap (λ (k : ℕ). decimal k) same, let small : n < 4294967296 = grind (arith, nat_tests) in rw (← same) small)
if_exact word n m true false e f h = absurd (cc)
if_exact word n m false b e f h = absurd (cc)

said_exact : (word : List ℕ) (o : Option ℕ) (m : ℕ) → option_and_then (if_written word) o ≡ Some m → (word ≡ decimal m) × (m < 4294967296)
said_exact word None m h = absurd (cc)
said_exact word (Some n) m h = if_exact word n m (nat_lt n 4294967296) (bytes_eq (decimal n) word) refl refl h

-- a word that says a frame's number is its decimal digits
pub frame_exact : (word : List ℕ) (n : ℕ) → frame_said word ≡ Some n → (word ≡ decimal n) × (n < 4294967296)
unfolding frame_said
frame_exact word n h = said_exact word (digits 10 10 word) n h

-- ---- bytes

digit_is : (n : ℕ) → n < 16 → digit_number (hex_digit n) ≡ n
digit_is n small = grind (arith, nat_tests)

digit_of : (c : ℕ) → nat_lt (digit_number c) 16 ≡ true → hex_digit (digit_number c) ≡ c
digit_of c is = grind (arith, nat_tests)

pub bytes_back : (bytes : List ℕ) → AllByRecursion (λ b. b < 256) bytes → bytes_said (hex bytes) ≡ Some bytes
unfolding bytes_said hex
bytes_back [] all = refl
bytes_back (b ∷ bytes) all =
    let small = all.0 in
    let high = digit_is (b / 16) (omega (arith, small)) in
    let low = digit_is (b % 16) (omega arith) in
    let a : nat_lt (b / 16) 16 ≡ true = grind (arith, nat_tests) in
    let c : nat_lt (b % 16) 16 ≡ true = grind (arith, nat_tests) in
    let whole : 16 * (b / 16) + b % 16 ≡ b = omega arith in
    rw (high, low, a, c, bytes_back bytes all.1, whole) refl

-- what a pair of digits says in front of others
pair_exact : (h l : ℕ) (rest : List ℕ) → h < 16 → l < 16 → (hex_digit ((16 * h + l) / 16) ∷ hex_digit ((16 * h + l) % 16) ∷ rest ≡ hex_digit h ∷ hex_digit l ∷ rest) × (16 * h + l < 256)
pair_exact h l rest small few =
    let x : (16 * h + l) / 16 ≡ h = omega arith in
    let y : (16 * h + l) % 16 ≡ l = omega arith in
    (rw (x, y) refl, omega arith)

-- a word that says bytes is their digits
abbrev AreOf : List ℕ → List ℕ → Type 0
AreOf word bytes = (word ≡ hex bytes) × AllByRecursion (λ b. b < 256) bytes

hex_cons : (b : ℕ) (bytes : List ℕ) → hex (b ∷ bytes) ≡ hex_digit (b / 16) ∷ hex_digit (b % 16) ∷ hex bytes
unfolding hex
hex_cons b bytes = refl

hex_nil : hex [] ≡ []
unfolding hex
hex_nil = refl

before_exact : (c d : ℕ) (more bytes : List ℕ) (o : Option (List ℕ)) → nat_lt (digit_number c) 16 ≡ true → nat_lt (digit_number d) 16 ≡ true
    → ((rest : List ℕ) → o ≡ Some rest → AreOf more rest) → before (16 * digit_number c + digit_number d) o ≡ Some bytes → AreOf (c ∷ d ∷ more) bytes
before_exact c d more bytes None e f next h = absurd (cc)
before_exact c d more bytes (Some rest) e f next h =
    let same : (16 * digit_number c + digit_number d) ∷ rest ≡ bytes = cc in
    let high : digit_number c < 16 = grind (arith, nat_tests) in
    let low : digit_number d < 16 = grind (arith, nat_tests) in
    let pair = pair_exact (digit_number c) (digit_number d) (hex rest) high low in
    let are = next rest refl in
    let word : c ∷ d ∷ more ≡ hex ((16 * digit_number c + digit_number d) ∷ rest) =
    sym (hex_cons (16 * digit_number c + digit_number d) rest ∙ pair.0 ∙ rw (digit_of c e, digit_of d f, are.0) refl) in
    rw (← same) (word, (pair.1, are.1))

digits_exact : (c d : ℕ) (more bytes : List ℕ) (o : Option (List ℕ)) (a b : Bool) → nat_lt (digit_number c) 16 ≡ a → nat_lt (digit_number d) 16 ≡ b
    → ((rest : List ℕ) → o ≡ Some rest → AreOf more rest) → (if a && b then before (16 * digit_number c + digit_number d) o else None) ≡ Some bytes → AreOf (c ∷ d ∷ more) bytes
digits_exact c d more bytes o true true e f next h = before_exact c d more bytes o e f next h
digits_exact c d more bytes o true false e f next h = absurd (cc)
digits_exact c d more bytes o false b e f next h = absurd (cc)

nil_exact : (bytes : List ℕ) → ◌≡◌ {A = Option (List ℕ)} (Some []) (Some bytes) → AreOf [] bytes
nil_exact [] h = (sym hex_nil, tt)
nil_exact (b ∷ bytes) h = absurd (cc)

pub bytes_exact : (word bytes : List ℕ) → bytes_said word ≡ Some bytes → (word ≡ hex bytes) × AllByRecursion (λ b. b < 256) bytes
unfolding bytes_said
bytes_exact [] bytes h = nil_exact bytes h
bytes_exact (c ∷ []) bytes h = absurd (cc)
bytes_exact (c ∷ d ∷ more) bytes h =
    digits_exact c d more bytes (bytes_said more) (nat_lt (digit_number c) 16) (nat_lt (digit_number d) 16) refl refl (λ rest e. bytes_exact more rest e) h

-- ---- packets

pub packet_back : (p : List ℕ) → IsPacketOfBytes p → packet_said (hex p) ≡ Ok p
unfolding packet_said
packet_back p is = rw (bytes_back p is.bytes, none_of_packet p is.packet) refl

unless_exact : (bytes p : List ℕ) (o : Option PacketFault) → fault_of bytes ≡ o → unless_fault bytes o ≡ Ok p → (bytes ≡ p) × (fault_of bytes ≡ None)
unless_exact bytes p None e h = (cc, e)
unless_exact bytes p (Some fault) e h = absurd (cc)

packet_of_exact : (word p : List ℕ) (o : Option (List ℕ)) → bytes_said word ≡ o → packet_of o ≡ Ok p → (word ≡ hex p) × IsPacketOfBytes p
packet_of_exact word p None e h = absurd (cc)
packet_of_exact word p (Some bytes) e h =
    let is = unless_exact bytes p (fault_of bytes) refl h in
    let are = bytes_exact word bytes e in
    rw (← is.0) (are.0, record { packet = packet_of_none bytes is.1; bytes = are.1 })

pub packet_exact : (word p : List ℕ) → packet_said word ≡ Ok p → (word ≡ hex p) × IsPacketOfBytes p
unfolding packet_said
packet_exact word p h = packet_of_exact word p (bytes_said word) refl h

-- ---- names

-- zero bytes are as many zero bytes
zeros_are : (xs : List ℕ) → list_all (λ b. b == 0) xs ≡ true → xs ≡ replicate (length xs) 0
zeros_are [] e = refl
zeros_are (x ∷ xs) e =
    let both = and_both (x == 0) (list_all (λ b. b == 0) xs) e in
    let here = both.0 in
    let none : x ≡ 0 = grind (arith, nat_tests, here) in
    let rest = zeros_are xs both.1 in
    cc

name_parts : (bytes : List ℕ) → is_name bytes ≡ true → list_all (λ b. b == 0) (drop (length (name_text bytes)) bytes) ≡ true
unfolding is_name
name_parts bytes e = (and_both ((length bytes == 20) && is_name_text (name_text bytes)) (list_all (λ b. b == 0) (drop (length (name_text bytes)) bytes)) e).1

text_is_front : (bytes : List ℕ) → name_text bytes ≡ take (length (name_text bytes)) bytes
unfolding name_text
text_is_front bytes =
    let k = position_or_len (λ b. b == 0) bytes in
    let le = position_or_len-le (λ b. b == 0) bytes in
    let long : length (take k bytes) ≡ k = simp length-take (omega (arith, le)) in
    ap (λ (n : ℕ). take n bytes) (sym long)

name_whole : (bytes : List ℕ) → is_name bytes ≡ true → name_of (name_text bytes) ≡ bytes
unfolding name_of
name_whole bytes e =
    let n = length (name_text bytes) in
    let size = twenty bytes e in
    let zeros = zeros_are (drop n bytes) (name_parts bytes e) in
    let count : length (drop n bytes) ≡ 20 - n = length-drop n bytes ∙ ap (λ (k : ℕ). k - n) size in
    ap (λ (k : ℕ). name_text bytes ++ replicate k 0) (sym count) ∙ ap (λ (xs : List ℕ). name_text bytes ++ xs) (sym zeros)
    ∙ ap (λ (xs : List ℕ). xs ++ drop n bytes) (text_is_front bytes) ∙ take-append-drop n bytes

pub name_back : (name : List ℕ) → is_name name ≡ true → name_said (name_text name) ≡ Some name
unfolding name_said
name_back name e = rw (text_in name e) (ap Some (name_whole name e))

name_bytes_plain : (text : List ℕ) → list_all is_name_byte text ≡ true → AllByRecursion IsPlain text
name_bytes_plain [] e = tt
name_bytes_plain (c ∷ cs) e =
    let both = and_both (is_name_byte c) (list_all is_name_byte cs) e in
    let here = both.0 in
    (grind (arith, nat_tests, here), name_bytes_plain cs both.1)

pub name_plain : (name : List ℕ) → is_name name ≡ true → AllByRecursion IsPlain (name_text name)
unfolding is_name_text
name_plain name e = name_bytes_plain (name_text name) (and_both (nat_lt 0 (length (name_text name)) && nat_le (length (name_text name)) 19) (list_all is_name_byte (name_text name)) (text_in name e)).1

pub name_short : (name : List ℕ) → is_name name ≡ true → length (name_text name) ≤ 19
name_short name e = short_text (name_text name) (text_in name e)

name_if : (word name : List ℕ) (b : Bool) → is_name_text word ≡ b → (if b then Some (name_of word) else None) ≡ Some name → (word ≡ name_text name) × (is_name name ≡ true)
name_if word name true e h =
    let same : name_of word ≡ name = cc in
    rw (← same) (sym (text-name_of word e), is_name-name_of word e)
name_if word name false e h = absurd (cc)

pub name_exact : (word name : List ℕ) → name_said word ≡ Some name → (word ≡ name_text name) × (is_name name ≡ true)
unfolding name_said
name_exact word name h = name_if word name (is_name_text word) refl h

-- ---- pipes and causes

pub pipe_back : (pipe : PipeName) → pipe_said (pipe_text pipe) ≡ Some pipe
unfolding pipe_said
pipe_back pipes.Hs = refl
pipe_back pipes.HsEv = refl
pipe_back pipes.Cs = refl
pipe_back pipes.Sc = refl
pipe_back pipes.Mm = refl
pipe_back pipes.Md = refl
pipe_back pipes.Lc = refl
pipe_back pipes.LcTlm = refl

-- a choice whose word this is, or one of the others
pub chosen : {A : Type 0} (word text : List ℕ) (here : A) (others : Option A) (x : A) (P : Type 0) (b : Bool) → bytes_eq word text ≡ b → (if b then Some here else others) ≡ Some x
    → (word ≡ text → here ≡ x → P) → (others ≡ Some x → P) → P
chosen word text here others x P true e h first next = first ((bytes_eq-Decides word text).0 e) cc
chosen word text here others x P false e h first next = next h

abbrev IsPipe : List ℕ → PipeName → Type 0
IsPipe word pipe = word ≡ pipe_text pipe

pipe_is : (word text : List ℕ) (here pipe : PipeName) → pipe_text here ≡ text → word ≡ text → here ≡ pipe → IsPipe word pipe
pipe_is word text here pipe same e f = e ∙ sym same ∙ ap (λ (p : PipeName). pipe_text p) f

pub pipe_exact : (word : List ℕ) (pipe : PipeName) → pipe_said word ≡ Some pipe → word ≡ pipe_text pipe
unfolding pipe_said
pipe_exact word pipe h =
    chosen word (codes "HS") pipes.Hs _ pipe (IsPipe word pipe) (bytes_eq word (codes "HS")) refl h (pipe_is word (codes "HS") pipes.Hs pipe refl) (λ h1.
    chosen word (codes "HS.EV") pipes.HsEv _ pipe (IsPipe word pipe) (bytes_eq word (codes "HS.EV")) refl h1 (pipe_is word (codes "HS.EV") pipes.HsEv pipe refl) (λ h2.
    chosen word (codes "CS") pipes.Cs _ pipe (IsPipe word pipe) (bytes_eq word (codes "CS")) refl h2 (pipe_is word (codes "CS") pipes.Cs pipe refl) (λ h3.
    chosen word (codes "SC") pipes.Sc _ pipe (IsPipe word pipe) (bytes_eq word (codes "SC")) refl h3 (pipe_is word (codes "SC") pipes.Sc pipe refl) (λ h4.
    chosen word (codes "MM") pipes.Mm _ pipe (IsPipe word pipe) (bytes_eq word (codes "MM")) refl h4 (pipe_is word (codes "MM") pipes.Mm pipe refl) (λ h5.
    chosen word (codes "MD") pipes.Md _ pipe (IsPipe word pipe) (bytes_eq word (codes "MD")) refl h5 (pipe_is word (codes "MD") pipes.Md pipe refl) (λ h6.
    chosen word (codes "LC") pipes.Lc _ pipe (IsPipe word pipe) (bytes_eq word (codes "LC")) refl h6 (pipe_is word (codes "LC") pipes.Lc pipe refl) (λ h7.
    chosen word (codes "LC.TLM") pipes.LcTlm None pipe (IsPipe word pipe) (bytes_eq word (codes "LC.TLM")) refl h7 (pipe_is word (codes "LC.TLM") pipes.LcTlm pipe refl) (λ h8. absurd (cc)))))))))

-- the word for a cause
abbrev pub cause_word : Bool → List ℕ
cause_word false = codes "limit"
cause_word true = codes "full"

pub cause_back : (full : Bool) → cause_said (cause_word full) ≡ Some full
unfolding cause_said
cause_back false = refl
cause_back true = refl

pub cause_exact : (word : List ℕ) (full : Bool) → cause_said word ≡ Some full → word ≡ cause_word full
unfolding cause_said
cause_exact word full h =
    chosen word (codes "limit") false _ full (word ≡ cause_word full) (bytes_eq word (codes "limit")) refl h (λ e f. e ∙ ap cause_word f) (λ h1.
    chosen word (codes "full") true None full (word ≡ cause_word full) (bytes_eq word (codes "full")) refl h1 (λ e f. e ∙ ap cause_word f) (λ h2. absurd (cc)))
