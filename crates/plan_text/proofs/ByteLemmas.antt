-- Lemmas on the bytes of telecommands: each is below 256.
use Rattle.std.proofs.Common.{◌≡◌, ℕ, zero, suc, ◌+◌, ◌-◌, ◌*◌, ◌<◌, Bool, true, false, ◌&&◌, List, [], ◌∷◌, ◌++◌, length, Option, Some, None, refl, arith}
use Rattle.std.specs.Prelude.{if◌then◌else◌, nat_lt, nat_le, replicate, codes, bit_xor, option_map, option_and_then, Result, Ok, Err}
use Rattle.std.specs.Char.{is_digit, digit_value}
use Rattle.std.specs.List.{AllByRecursion, fold, flat_map, list_all}
use Rattle.std.proofs.lemmas.Bool.Decides.{nat_tests}
use Rattle.std.proofs.lemmas.Nat.{xor_of_8}
use Rattle.packet_forms.specs.Built.{command_of, with_checksum, primary_header}
use Rattle.packet_forms.specs.Packets.{checksum_of}
use Rattle.packet_forms.specs.Crc.{crc_of}
use Rattle.packet_forms.specs.Faults.{fault_of}
use Rattle.packet_forms.specs.Numbers.{be16_bytes, be32_bytes}
use Rattle.packet_forms.specs.Names.{is_name_byte, is_name_text, name_of}
use Rattle.packet_forms.specs.declared.packet.PacketFault.{PacketFault}
use Rattle.row_forms.specs.Words.{before, hex_said, name_said}
use Rattle.row_forms.specs.Lists.{parts}
use Rattle.row_forms.specs.Numbers.{number_bytes, number_said}
use Rattle.row_forms.specs.Values.{steps_said, expression_of, expression_said, value_said, reason_of}
use Rattle.row_forms.specs.Rows.{with_front, with_check, behind_key, value_or, keyed_said, field_said, then_said, row_said}
use Rattle.row_forms.specs.declared.field.Kind.{Kind}
use Rattle.row_forms.specs.declared.field.Kind.TheVariants.{Number, Name, Block, Expression}
use Rattle.row_forms.specs.declared.field.Width.{Width}
use Rattle.row_forms.specs.declared.field.Width.TheVariants.{U8, U16, U32}
use Rattle.row_forms.specs.declared.field.Field.{Field}
use Rattle.row_forms.specs.declared.field.Field.TheVariants.{Value, Zeros, Check}
use Rattle.row_forms.specs.declared.fault.Reason.{Reason}
use Rattle.row_forms.specs.declared.fault.RowFault.{RowFault}
use Rattle.row_forms.proofs.TextLemmas.{all_append}
use Rattle.telecommands.specs.declared.command.Command.{Command}
use Rattle.telecommands.specs.declared.fault.CommandFault.TheVariants as faults
use Rattle.telecommands.specs.Commands.{is_good, are_good, named, named_said, sent, whole_packet, packet_said, word_said, command_said}
use Rattle.telecommands.proofs.CommandLemmas.{good_is, and_both}
use Rattle.plan_text.specs.Plans.{sent_by, packet_sent}
use Rattle.plan_text.proofs.MadeLemmas.{named_good}

abbrev AreBytes : List ℕ → Type 0
AreBytes bytes = AllByRecursion (λ b. b < 256) bytes

abbrev BytesIf : Option (List ℕ) → Type 0
BytesIf None = Unit {0}
BytesIf (Some bytes) = AreBytes bytes

abbrev pub SaysBytes : {E : Type 0} → Result (List ℕ) E → Type 0
SaysBytes (Ok bytes) = AreBytes bytes
SaysBytes (Err e) = Unit {0}

both_bytes : (xs ys : List ℕ) → AreBytes xs → AreBytes ys → AreBytes (xs ++ ys)
both_bytes xs ys first second = all_append (λ b. b < 256) xs ys first second

zeros_are : (n : ℕ) → AreBytes (replicate n 0)
zeros_are zero = tt
zeros_are (suc n) = (omega arith, zeros_are n)

two_are : (n : ℕ) → AreBytes (be16_bytes n)
unfolding be16_bytes
two_are n = (omega arith, (omega arith, tt))

four_are : (n : ℕ) → AreBytes (be32_bytes n)
unfolding be32_bytes
four_are n = (omega arith, (omega arith, (omega arith, (omega arith, tt))))

-- ---- values

number_are : (w : Width) (n : ℕ) → AreBytes (number_bytes w n)
number_are U8 n = (omega arith, tt)
number_are U16 n = two_are n
number_are U32 n = four_are n

numbers_are : (w : Width) (said : Option ℕ) → BytesIf (option_map (number_bytes w) said)
numbers_are w None = tt
numbers_are w (Some n) = number_are w n

name_byte : (c : ℕ) → is_name_byte c ≡ true → c < 256
name_byte c e = grind (arith, nat_tests)

name_bytes : (text : List ℕ) → list_all is_name_byte text ≡ true → AreBytes text
name_bytes [] e = tt
name_bytes (c ∷ text) e = let parts = and_both (is_name_byte c) (list_all is_name_byte text) e in (name_byte c parts.0, name_bytes text parts.1)

name_are : (text : List ℕ) → BytesIf (name_said text)
unfolding name_said is_name_text name_of
name_are text = by (nat_lt 0 (length text) && nat_le (length text) 19 && list_all is_name_byte text) refl where
  by : (b : Bool) → (nat_lt 0 (length text) && nat_le (length text) 19 && list_all is_name_byte text) ≡ b → BytesIf (if b then Some (text ++ replicate (20 - length text) 0) else None)
  by true e = both_bytes text (replicate (20 - length text) 0) (name_bytes text (and_both (nat_lt 0 (length text) && nat_le (length text) 19) (list_all is_name_byte text) e).1) (zeros_are (20 - length text))
  by false e = tt

before_are : (b : ℕ) (said : Option (List ℕ)) → b < 256 → BytesIf said → BytesIf (before b said)
before_are b None small all = tt
before_are b (Some bytes) small all = (small, all)

pair_small : (c d : ℕ) → is_digit c 16 ≡ true → is_digit d 16 ≡ true → 16 * digit_value c + digit_value d < 256
pair_small c d first second =
    let a : digit_value c < 16 = grind (arith, nat_tests, first) in
    let b : digit_value d < 16 = grind (arith, nat_tests, second) in
    omega (arith, a, b)

hex_are : (digits : List ℕ) → BytesIf (hex_said digits)
unfolding hex_said
hex_are [] = tt
hex_are (c ∷ []) = tt
hex_are (c ∷ d ∷ more) = by (is_digit c 16 && is_digit d 16) refl (hex_are more) where
  by : (b : Bool) → (is_digit c 16 && is_digit d 16) ≡ b → BytesIf (hex_said more) → BytesIf (if b then before (16 * digit_value c + digit_value d) (hex_said more) else None)
  by true e all = let parts = and_both (is_digit c 16) (is_digit d 16) e in before_are (16 * digit_value c + digit_value d) (hex_said more) (pair_small c d parts.0 parts.1) all
  by false e all = tt

steps_are : (steps : List ℕ) → AreBytes (flat_map be16_bytes steps)
steps_are [] = tt
steps_are (n ∷ steps) = both_bytes (be16_bytes n) (flat_map be16_bytes steps) (two_are n) (steps_are steps)

expression_when : (steps : List ℕ) (b : Bool) → BytesIf (if b then Some (be16_bytes (length steps) ++ (flat_map be16_bytes steps ++ replicate (32 - 2 * length steps) 0)) else None)
expression_when steps true =
    both_bytes (be16_bytes (length steps)) (flat_map be16_bytes steps ++ replicate (32 - 2 * length steps) 0) (two_are (length steps))
    (both_bytes (flat_map be16_bytes steps) (replicate (32 - 2 * length steps) 0) (steps_are steps) (zeros_are (32 - 2 * length steps)))
expression_when steps false = tt

expression_are : (said : Option (List ℕ)) → BytesIf (option_and_then expression_of said)
expression_are None = tt
expression_are (Some steps) = expression_when steps (nat_le (length steps) 16)

value_are : (epoch : Option ℕ) (kind : Kind) (text : List ℕ) → BytesIf (value_said epoch kind text)
unfolding value_said expression_said
value_are epoch (Number w spelling) text = numbers_are w (number_said epoch w spelling text)
value_are epoch Name text = name_are text
value_are epoch Block text = hex_are text
value_are epoch (Expression words) text = expression_are (steps_said words.now (parts text))

-- ---- rows

value_says : (reason : Reason) (said : Option (List ℕ)) → BytesIf said → SaysBytes (value_or reason said)
value_says reason None all = tt
value_says reason (Some bytes) all = all

field_are : (epoch : Option ℕ) (kind : Kind) (text : Option (List ℕ)) → SaysBytes (keyed_said epoch kind text)
field_are epoch kind None = tt
field_are epoch kind (Some text) = value_says (reason_of kind) (value_said epoch kind text) (value_are epoch kind text)

front_are : {E : Type 0} (front : List ℕ) (said : Result (List ℕ) E) → AreBytes front → SaysBytes said → SaysBytes (with_front front said)
front_are front (Ok bytes) first all = both_bytes front bytes first all
front_are front (Err e) first all = tt

check_are : {E : Type 0} (said : Result (List ℕ) E) → SaysBytes said → SaysBytes (with_check said)
check_are (Ok bytes) all = both_bytes (be16_bytes (crc_of 0 bytes)) bytes (two_are (crc_of 0 bytes)) all
check_are (Err e) all = tt

then_are : (n : ℕ) (said : Result (List ℕ) Reason) (more : Result (List ℕ) RowFault) → SaysBytes said → SaysBytes more → SaysBytes (then_said n said more)
then_are n (Ok bytes) more first all = front_are bytes more first all
then_are n (Err reason) more first all = tt

row_are : (epoch : Option ℕ) (n : ℕ) (fs : List Field) (ws : List (List ℕ)) → SaysBytes (row_said epoch n fs ws)
unfolding row_said field_said
row_are epoch n [] [] = tt
row_are epoch n [] (w ∷ ws) = tt
row_are epoch n (Value key kind ∷ fs) [] = tt
row_are epoch n (Value key kind ∷ fs) (w ∷ ws) = then_are n (keyed_said epoch kind (behind_key key.now w)) (row_said epoch (n + 1) fs ws) (field_are epoch kind (behind_key key.now w)) (row_are epoch (n + 1) fs ws)
row_are epoch n (Zeros count ∷ fs) ws = front_are (replicate count 0) (row_said epoch n fs ws) (zeros_are count) (row_are epoch n fs ws)
row_are epoch n (Check ∷ fs) ws = check_are (row_said epoch n fs ws) (row_are epoch n fs ws)

-- ---- telecommands

fold_small : (start : ℕ) (bytes : List ℕ) → start < 256 → AreBytes bytes → fold bit_xor start bytes < 256
fold_small start [] small all = small
fold_small start (b ∷ bytes) small all = fold_small (bit_xor start b) bytes (xor_of_8 start b small all.0) all.1

front_of : ℕ → ℕ → List ℕ → List ℕ
front_of id code payload = primary_header id (length payload + 8) ++ code ∷ []

front_bytes : (id code : ℕ) (payload : List ℕ) → code < 256 → AreBytes (front_of id code payload)
unfolding front_of primary_header be16_bytes
front_bytes id code payload small = (omega arith, (omega arith, (omega arith, (omega arith, (omega arith, (omega arith, (small, tt)))))))

command_are : (id code : ℕ) (payload : List ℕ) → code < 256 → AreBytes payload → AreBytes (command_of id code payload)
unfolding command_of with_checksum checksum_of front_of
command_are id code payload small all =
    let front = front_of id code payload in
    let first = front_bytes id code payload small in
    let sum : bit_xor 255 (bit_xor (checksum_of front) (checksum_of payload)) < 256 =
    xor_of_8 255 (bit_xor (checksum_of front) (checksum_of payload)) (omega arith) (xor_of_8 (checksum_of front) (checksum_of payload) (fold_small 0 front (omega arith) first) (fold_small 0 payload (omega arith) all)) in
    both_bytes front (bit_xor 255 (bit_xor (checksum_of front) (checksum_of payload)) ∷ payload) first (sum, all)

sent_are : (c : Command) (said : Result (List ℕ) RowFault) → is_good c ≡ true → SaysBytes said → SaysBytes (sent c said)
sent_are c (Err fault) good all = tt
sent_are c (Ok payload) good all = by (nat_le (length payload) 248) where
  by : (b : Bool) → SaysBytes (if b then Ok (command_of c.id c.code payload) else Err faults.Long)
  by true = let code = (good_is c good).code in command_are c.id c.code payload (omega (arith, code)) all
  by false = tt

whole_are : (n : ℕ) (bytes : List ℕ) (fault : Option PacketFault) → AreBytes bytes → SaysBytes (whole_packet n bytes fault)
whole_are n bytes None all = all
whole_are n bytes (Some fault) all = tt

packet_are : (n : ℕ) (said : Option (List ℕ)) (ws : List (List ℕ)) → BytesIf said → SaysBytes (packet_said n said ws)
packet_are n None ws all = tt
packet_are n (Some bytes) [] all = whole_are n bytes (fault_of bytes) all
packet_are n (Some bytes) (w ∷ ws) all = tt

named_are : (epoch : Option ℕ) (n : ℕ) (cs : List Command) (name : List ℕ) (ws : List (List ℕ)) → are_good cs ≡ true → (c : Option Command) → named cs name ≡ c → SaysBytes (named_said epoch n c ws)
named_are epoch n cs name ws good None e = tt
named_are epoch n cs name ws good (Some c) e = sent_are c (row_said epoch (n + 1) c.fields.now ws) (named_good cs name c good e) (row_are epoch (n + 1) c.fields.now ws)

word_are : (epoch : Option ℕ) (n : ℕ) (cs : List Command) (key : Option (List ℕ)) (name : List ℕ) (ws : List (List ℕ)) → are_good cs ≡ true → SaysBytes (word_said epoch n cs key name ws)
word_are epoch n cs (Some digits) name ws good = packet_are n (hex_said digits) ws (hex_are digits)
word_are epoch n cs None name ws good = named_are epoch n cs name ws good (named cs name) refl

command_bytes : (epoch : Option ℕ) (n : ℕ) (cs : List Command) (ws : List (List ℕ)) → are_good cs ≡ true → SaysBytes (command_said epoch n cs ws)
unfolding command_said
command_bytes epoch n cs [] good = tt
command_bytes epoch n cs (w ∷ ws) good = word_are epoch n cs (behind_key (codes "packet") w) w ws good

by_bytes : (cs : List Command) (epoch : ℕ) (said : Option (List ℕ)) (w : List ℕ) (ws : List (List ℕ)) → are_good cs ≡ true → BytesIf said → SaysBytes (sent_by cs epoch said (w ∷ ws) ws)
by_bytes cs epoch (Some bytes) w ws good all = packet_are 2 (Some bytes) ws all
by_bytes cs epoch None w ws good all = command_bytes (Some epoch) 2 cs (w ∷ ws) good

-- what a `send` says is made of bytes
pub sent_is_bytes : (cs : List Command) (epoch : ℕ) (ws : List (List ℕ)) → are_good cs ≡ true → SaysBytes (packet_sent cs epoch ws)
unfolding packet_sent
sent_is_bytes cs epoch [] good = tt
sent_is_bytes cs epoch (w ∷ ws) good = by_bytes cs epoch (hex_said w) w ws good (hex_are w)
