-- The text of a name, and the name of a text.
use Rattle.std.proofs.Common.{◌≡◌, ◌≤◌, ◌<◌, ℕ, ◌+◌, ◌-◌, Bool, true, false, not, cond, ◌&&◌, List, [], ◌∷◌, ◌++◌, length, take, drop, refl, sym, ap, ◌∙◌, arith, length-append, eq-eqb, append-nil, zero, suc}
use Rattle.std.specs.Prelude.{Some, None, ◌==◌, replicate, position}
use Rattle.std.specs.List.{list_all, prefix_len}
use Rattle.std.specs.Str.{IsAscii, IsUtf8}
use Rattle.std.proofs.lemmas.Bool.{ltb-false}
use Rattle.std.proofs.lemmas.Bool.Decides.{nat_tests}
use Rattle.std.proofs.lemmas.List.{take_all, length-replicate, drop-replicate, drop_all}
use Rattle.std.proofs.Math.Seq.{drop-append_seam, take-append_seam}
use Rattle.std.proofs.lemmas.Str.{IsUtf8-from_ascii}
use Rattle.std.proofs.lemmas.Str.Ascii.{IsAscii-nil, IsAscii-cons}
use Rattle.packet_forms.specs.Names.{is_name, is_name_byte, is_name_text, name_of, name_text}

some_is : (b : Bool) (n end : ℕ) → cond b (Some n) None ≡ Some end → n ≡ end
some_is true n end h = cc
some_is false n end h = cc

none_is : (b : Bool) (n : ℕ) → cond b (Some n) None ≡ None → b ≡ false
none_is true n h = cc
none_is false n h = refl

-- the text ends at the first zero byte
pub text_to_zero : (bytes : List ℕ) (end : ℕ) → position (λ b. b == 0) bytes ≡ Some end → take end bytes ≡ name_text bytes
unfolding name_text
text_to_zero bytes end h = ap (λ (n : ℕ). take n bytes) (sym (some_is _ _ end h))

-- a list without a zero byte is all text
pub text_is_all : (bytes : List ℕ) → position (λ b. b == 0) bytes ≡ None → bytes ≡ name_text bytes
unfolding name_text
text_is_all bytes h = sym (take_all _ bytes (ltb-false _ _ (none_is _ _ h)))

and_first : (a b : Bool) → (a && b) ≡ true → a ≡ true
and_first true b h = refl
and_first false b h = h

and_second : (a b : Bool) → (a && b) ≡ true → b ≡ true
and_second true b h = h
and_second false b h = cc

byte_is_ascii : (c : ℕ) → is_name_byte c ≡ true → c < 128
byte_is_ascii c h = grind (arith, nat_tests)

byte_is_not_zero : (c : ℕ) → is_name_byte c ≡ true → (c == 0) ≡ false
byte_is_not_zero c h = grind (arith, nat_tests)

length_to_zero : (text : List ℕ) (n : ℕ) → list_all is_name_byte text ≡ true → prefix_len (λ (b : ℕ). not (b == 0)) (text ++ replicate n 0) ≡ length text
length_to_zero [] zero h = refl
length_to_zero [] (suc n) h = refl
length_to_zero (c ∷ text) n h =
    let rest : prefix_len (λ (b : ℕ). not (b == 0)) (text ++ replicate n 0) ≡ length text = length_to_zero text n (and_second _ _ h) in
    let here : (c == 0) ≡ false = byte_is_not_zero c (and_first _ _ h) in
    rw here (omega arith)

-- zero bytes behind name bytes end the text
text_before_zeros : (text : List ℕ) (n : ℕ) → list_all is_name_byte text ≡ true → name_text (text ++ replicate n 0) ≡ text
unfolding name_text
text_before_zeros text n h =
    ap (λ (k : ℕ). take k (text ++ replicate n 0)) (length_to_zero text n h) ∙ take-append_seam text (replicate n 0)

all_zeros : (n : ℕ) → list_all (λ (b : ℕ). b == 0) (replicate n 0) ≡ true
all_zeros zero = refl
all_zeros (suc n) = all_zeros n

name_bytes : (text : List ℕ) → is_name_text text ≡ true → list_all is_name_byte text ≡ true
unfolding is_name_text
name_bytes text h = and_second _ _ h

pub short_text : (text : List ℕ) → is_name_text text ≡ true → length text ≤ 19
unfolding is_name_text
short_text text h = grind (arith, nat_tests)

pub twenty : (bytes : List ℕ) → is_name bytes ≡ true → length bytes ≡ 20
unfolding is_name
twenty bytes h = grind (arith, nat_tests)

pub text_in : (bytes : List ℕ) → is_name bytes ≡ true → is_name_text (name_text bytes) ≡ true
unfolding is_name
text_in bytes h = grind (arith, nat_tests)

ascii : (text : List ℕ) → list_all is_name_byte text ≡ true → IsAscii text
ascii [] h = IsAscii-nil
ascii (c ∷ text) h = IsAscii-cons c text (byte_is_ascii c (and_first _ _ h)) (ascii text (and_second _ _ h))

-- a name's text is UTF-8
pub text_utf8 : (text : List ℕ) → is_name_text text ≡ true → IsUtf8 text
text_utf8 text h = IsUtf8-from_ascii text (ascii text (name_bytes text h))

three : (a b c : Bool) → a ≡ true → b ≡ true → c ≡ true → (a && b && c) ≡ true
three a b c e f g = rw (e, f, g) refl

-- the text of a text's name is that text
pub text-name_of : (text : List ℕ) → is_name_text text ≡ true → name_text (name_of text) ≡ text
unfolding name_of
text-name_of text h = text_before_zeros text (20 - length text) (name_bytes text h)

-- the name of a text is a name
pub is_name-name_of : (text : List ℕ) → is_name_text text ≡ true → is_name (name_of text) ≡ true
unfolding is_name name_of
is_name-name_of text h =
    let short = short_text text h in
    let zeros = replicate (20 - length text) 0 in
    let same : name_text (text ++ zeros) ≡ text = text-name_of text h in
    let size : length (text ++ zeros) ≡ 20 = simp (length-append, length-replicate) (omega arith) in
    three _ _ _ (eq-eqb _ _ size) (rw same h)
    (rw (same, drop-append_seam {A = ℕ}) (all_zeros (20 - length text)))

-- twenty bytes put over twenty
pub put_name : (bytes places : List ℕ) → length bytes ≡ 20 → length places ≡ 20 → take 0 places ++ (bytes ++ drop (0 + length bytes) places) ≡ bytes
put_name bytes places h k =
    let e : drop (0 + length bytes) places ≡ [] = drop_all (0 + length bytes) places (omega arith) in
    rw (e, append-nil) refl

-- a text put over twenty zero bytes
pub put_text : (text : List ℕ) → length text ≤ 19 → take 0 (replicate 20 0) ++ (text ++ drop (0 + length text) (replicate 20 0)) ≡ name_of text
unfolding name_of
put_text text h =
    let e : drop (0 + length text) (replicate 20 0) ≡ replicate (20 - (0 + length text)) 0 = drop-replicate (0 + length text) 20 0 in
    let f : 20 - (0 + length text) ≡ 20 - length text = omega arith in
    ap (λ (zeros : List ℕ). text ++ zeros) (e ∙ ap (λ (n : ℕ). replicate n 0) f)
