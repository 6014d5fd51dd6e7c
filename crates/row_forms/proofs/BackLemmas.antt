-- Lemmas on values and rows that are shown and read back.
use Rattle.std.proofs.Common.{◌≡◌, ℕ, zero, suc, ◌+◌, ◌*◌, ◌-◌, ◌<◌, ◌≤◌, ◌/◌, ◌%◌, true, false, List, [], ◌∷◌, ◌++◌, length, take, drop, map, get_or, refl, sym, ◌∙◌, ap, arith, Option, Some, append_assoc, length-append, length-take, length-drop, Bor}
use Rattle.std.specs.Prelude.{◌==◌, ◌&&◌, nat_lt, nat_le, nat_eq, replicate, option_map, Ok}
use Rattle.std.specs.List.{AllByRecursion, list_all, flat_map, starts_with, position_or_len}
use Rattle.std.specs.Str.{bytes_eq}
use Rattle.std.proofs.lemmas.Bool.Decides.{nat_tests}
use Rattle.std.proofs.lemmas.List.{take-append-drop}
use Rattle.std.proofs.Math.Seq.{drop-append_seam, take-append_seam}
use Rattle.packet_forms.specs.Crc.{crc_of}
use Rattle.packet_forms.specs.Names.{is_name, is_name_byte, is_name_text, name_text, name_of}
use Rattle.packet_forms.specs.Numbers.{be16_at, be16_bytes}
use Rattle.packet_forms.proofs.NameForms.{text_in, twenty}
use Rattle.row_forms.specs.declared.field.Choice.{Choice}
use Rattle.row_forms.specs.declared.field.Field.{Field}
use Rattle.row_forms.specs.declared.field.Field.TheVariants.{Value, Zeros, Check}
use Rattle.row_forms.specs.declared.field.Kind.{Kind}
use Rattle.row_forms.specs.declared.field.Kind.TheVariants.{Number, Name, Block, Expression}
use Rattle.row_forms.specs.Words.{words, name_said}
use Rattle.row_forms.specs.Lists.{parts, listed}
use Rattle.row_forms.specs.Numbers.{bytes_of, number_bytes, choice_said, choice_shown, are_choices}
use Rattle.row_forms.specs.Values.{is_kind, width, can_show, value_said, value_shown, steps_said, steps_at, expression_said, expression_shown, is_expression}
use Rattle.row_forms.specs.Rows.{behind_key, field_said, row_said, row_words, word_shown, is_row, are_fields}
use Rattle.row_forms.proofs.WordsLemmas.{position_or_len-le}
use Rattle.row_forms.proofs.TextLemmas.{IsPlain, IsMark, IsWord, and_both, all_append, parts_listed, listed_plain}
use Rattle.row_forms.proofs.HexLemmas.{hex_is_bytes, hex_is_plain}
use Rattle.row_forms.proofs.SpellingLemmas.{number_is, choice_back, choice_is_mark, spelling_back, spelling_plain}
use Rattle.row_forms.proofs.RowLemmas.{row_shows, row_has_zeros, row_has_check}

abbrev AreBytes : List ℕ → Type 0
AreBytes bytes = AllByRecursion (λ b. b < 256) bytes

pub all_take : (P : ℕ → Type 0) (n : ℕ) (xs : List ℕ) → AllByRecursion P xs → AllByRecursion P (take n xs)
all_take P zero xs all = tt
all_take P (suc n) [] all = tt
all_take P (suc n) (x ∷ xs) all = (all.0, all_take P n xs all.1)

pub all_drop : (P : ℕ → Type 0) (n : ℕ) (xs : List ℕ) → AllByRecursion P xs → AllByRecursion P (drop n xs)
all_drop P zero xs all = all
all_drop P (suc n) [] all = tt
all_drop P (suc n) (x ∷ xs) all = all_drop P n xs all.1

-- zero bytes are as many zero bytes
pub zeros_are : (xs : List ℕ) → list_all (λ b. b == 0) xs ≡ true → xs ≡ replicate (length xs) 0
zeros_are [] e = refl
zeros_are (x ∷ xs) e =
    let both = and_both (x == 0) (list_all (λ b. b == 0) xs) e in
    let here = both.0 in
    let none : x ≡ 0 = grind (arith, nat_tests, here) in
    let rest = zeros_are xs both.1 in
    cc

-- ---- names

name_parts : (bytes : List ℕ) → is_name bytes ≡ true → list_all (λ b. b == 0) (drop (length (name_text bytes)) bytes) ≡ true
unfolding is_name
name_parts bytes e = (and_both ((length bytes == 20) && is_name_text (name_text bytes)) (list_all (λ b. b == 0) (drop (length (name_text bytes)) bytes)) e).1

text_is_front : (bytes : List ℕ) → name_text bytes ≡ take (length (name_text bytes)) bytes
unfolding name_text
text_is_front bytes =
    let k = position_or_len (λ b. b == 0) bytes in
    let le = position_or_len-le (λ b. b == 0) bytes in
    let long : length (take k bytes) ≡ k = simp length-take (omega (arith, le)) in
    ap (λ (n : ℕ). take n bytes) (sym long)

name_whole : (bytes : List ℕ) → is_name bytes ≡ true → name_of (name_text bytes) ≡ bytes
unfolding name_of
name_whole bytes e =
    let n = length (name_text bytes) in
    let size = twenty bytes e in
    let zeros = zeros_are (drop n bytes) (name_parts bytes e) in
    let count : length (drop n bytes) ≡ 20 - n = length-drop n bytes ∙ ap (λ (k : ℕ). k - n) size in
    ap (λ (k : ℕ). name_text bytes ++ replicate k 0) (sym count) ∙ ap (λ (xs : List ℕ). name_text bytes ++ xs) (sym zeros)
    ∙ ap (λ (xs : List ℕ). xs ++ drop n bytes) (text_is_front bytes) ∙ take-append-drop n bytes

name_back : (bytes : List ℕ) → is_name bytes ≡ true → name_said (name_text bytes) ≡ Some bytes
unfolding name_said
name_back bytes e = rw (text_in bytes e) (ap Some (name_whole bytes e))

name_bytes_plain : (text : List ℕ) → list_all is_name_byte text ≡ true → AllByRecursion IsPlain text
name_bytes_plain [] e = tt
name_bytes_plain (c ∷ cs) e =
    let both = and_both (is_name_byte c) (list_all is_name_byte cs) e in
    let here = both.0 in
    (grind (arith, nat_tests, here), name_bytes_plain cs both.1)

name_plain : (bytes : List ℕ) → is_name bytes ≡ true → AllByRecursion IsPlain (name_text bytes)
unfolding is_name_text
name_plain bytes e = name_bytes_plain (name_text bytes) (and_both (nat_lt 0 (length (name_text bytes)) && nat_le (length (name_text bytes)) 19) (list_all is_name_byte (name_text bytes)) (text_in bytes e)).1

-- ---- expressions

steps_zero : (bytes : List ℕ) → steps_at zero bytes ≡ []
unfolding steps_at
steps_zero bytes = refl

steps_suc : (n : ℕ) (bytes : List ℕ) → steps_at (suc n) bytes ≡ be16_at bytes 0 ∷ steps_at n (drop 2 bytes)
unfolding steps_at
steps_suc n bytes = refl

steps_cons : (words : List Choice) (part : List ℕ) (more : List (List ℕ)) (n : ℕ) → choice_said 65535 words part ≡ Some n → steps_said words (part ∷ more) ≡ option_map (λ rest. n ∷ rest) (steps_said words more)
unfolding steps_said
steps_cons words part more n e = rw e refl

no_steps : (words : List Choice) → steps_said words [] ≡ Some []
unfolding steps_said
no_steps words = refl

abbrev AreSteps : List ℕ → Type 0
AreSteps steps = AllByRecursion (λ n. n ≤ 65535) steps

steps_back : (words : List Choice) (steps : List ℕ) → are_choices 65535 words ≡ true → AllByRecursion (λ n. n ≤ 65535) steps → steps_said words (map (choice_shown words) steps) ≡ Some steps
steps_back words [] good all = no_steps words
steps_back words (n ∷ steps) good all =
    steps_cons words (choice_shown words n) (map (choice_shown words) steps) n (choice_back 65535 words n good all.0 (let small = all.0 in omega (arith, small)))
    ∙ ap (λ (o : Option (List ℕ)). option_map (λ rest. n ∷ rest) o) (steps_back words steps good all.1)

steps_are_marks : (words : List Choice) (steps : List ℕ) → are_choices 65535 words ≡ true → AllByRecursion (λ n. n ≤ 65535) steps → AllByRecursion (AllByRecursion IsMark) (map (choice_shown words) steps)
steps_are_marks words [] good all = tt
steps_are_marks words (n ∷ steps) good all = (choice_is_mark 65535 words n good (let small = all.0 in omega (arith, small)), steps_are_marks words steps good all.1)

be16_small : (bytes : List ℕ) → AllByRecursion (λ b. b < 256) bytes → be16_at bytes 0 ≤ 65535
unfolding be16_at
be16_small [] all = omega arith
be16_small (a ∷ []) all = let f = all.0 in omega (arith, f)
be16_small (a ∷ b ∷ rest) all = let f = all.0 in let g = all.1.0 in omega (arith, f, g)

be16_back : (a b : ℕ) (rest : List ℕ) → a < 256 → b < 256 → be16_bytes (be16_at (a ∷ b ∷ rest) 0) ≡ a ∷ b ∷ []
unfolding be16_at be16_bytes
be16_back a b rest f g =
    let x : (a * 256 + b) / 256 % 256 ≡ a = omega (arith, f, g) in
    let y : (a * 256 + b) % 256 ≡ b = omega (arith, f, g) in
    cc

steps_small : (n : ℕ) (bytes : List ℕ) → AllByRecursion (λ b. b < 256) bytes → AllByRecursion (λ n. n ≤ 65535) (steps_at n bytes)
steps_small zero bytes all = rw (steps_zero bytes) tt
steps_small (suc n) bytes all = rw (steps_suc n bytes) (be16_small bytes all, steps_small n (drop 2 bytes) (all_drop (λ b. b < 256) 2 bytes all))

steps_length : (n : ℕ) (bytes : List ℕ) → length (steps_at n bytes) ≡ n
steps_length zero bytes = rw (steps_zero bytes) refl
steps_length (suc n) bytes = let rest = steps_length n (drop 2 bytes) in rw (steps_suc n bytes) (omega (arith, rest))

steps_bytes_are : (n : ℕ) (bytes : List ℕ) → AllByRecursion (λ b. b < 256) bytes → 2 * n ≤ length bytes → flat_map be16_bytes (steps_at n bytes) ≡ take (2 * n) bytes
steps_bytes_are zero bytes all room = rw (steps_zero bytes) refl
steps_bytes_are (suc n) [] all room = absurd (omega (arith, room))
steps_bytes_are (suc n) (a ∷ []) all room = absurd (omega (arith, room))
steps_bytes_are (suc n) (a ∷ b ∷ rest) all room =
    let two : 2 * suc n ≡ suc (suc (2 * n)) = omega arith in
    let behind = steps_bytes_are n rest all.1.1 (omega (arith, room)) in
    rw (steps_suc n (a ∷ b ∷ rest), two, be16_back a b rest all.0 all.1.0) (ap (λ (xs : List ℕ). a ∷ b ∷ xs) behind)

-- what is asked of an expression
record IsExpression (bytes : List ℕ) : Type 0 where
  size : length bytes ≡ 34
  some : 0 < be16_at bytes 0
  few : be16_at bytes 0 ≤ 16
  zeros : list_all (λ b. b == 0) (drop (2 + 2 * be16_at bytes 0) bytes) ≡ true

expression_is : (bytes : List ℕ) → is_expression bytes ≡ true → IsExpression bytes
unfolding is_expression
expression_is bytes e =
    let n = be16_at bytes 0 in
    let x = and_both ((length bytes == 34) && nat_lt 0 n && nat_le n 16) (list_all (λ b. b == 0) (drop (2 + 2 * n) bytes)) e in
    let y = and_both ((length bytes == 34) && nat_lt 0 n) (nat_le n 16) x.0 in
    let z = and_both (length bytes == 34) (nat_lt 0 n) y.0 in
    let h1 = z.0 in let h2 = z.1 in let h3 = y.1 in
    record { size = grind (arith, nat_tests, h1); some = grind (arith, nat_tests, h2); few = grind (arith, nat_tests, h3); zeros = x.1 }

list_parts : (words : List Choice) (steps : List ℕ) → 0 < length steps → are_choices 65535 words ≡ true → AllByRecursion (λ n. n ≤ 65535) steps → parts (listed false (map (choice_shown words) steps)) ≡ map (choice_shown words) steps
list_parts words [] some good all = absurd (omega (arith, some))
list_parts words (n ∷ steps) some good all =
    let marks = steps_are_marks words (n ∷ steps) good all in
    parts_listed (choice_shown words n) (map (choice_shown words) steps) marks.0 marks.1

whole_expression : (bytes : List ℕ) → AllByRecursion (λ b. b < 256) bytes → IsExpression bytes → (n : ℕ) → n ≡ be16_at bytes 0 → be16_bytes n ++ (take (2 * n) (drop 2 bytes) ++ replicate (32 - 2 * n) 0) ≡ bytes
whole_expression [] all is n e = absurd (let size = is.size in omega (arith, size))
whole_expression (a ∷ []) all is n e = absurd (let size = is.size in omega (arith, size))
whole_expression (a ∷ b ∷ rest) all is n e =
    let front : be16_bytes n ≡ a ∷ b ∷ [] = rw e (be16_back a b rest all.0 all.1.0) in
    let size = is.size in
    let shape : 2 + 2 * be16_at (a ∷ b ∷ rest) 0 ≡ suc (suc (2 * n)) = omega (arith, e) in
    let zeros : list_all (λ b. b == 0) (drop (2 * n) rest) ≡ true = (let h = rw shape at is.zeros in h) in
    let count : length (drop (2 * n) rest) ≡ 32 - 2 * n = length-drop (2 * n) rest ∙ omega (arith, size) in
    let tail : drop (2 * n) rest ≡ replicate (32 - 2 * n) 0 = zeros_are (drop (2 * n) rest) zeros ∙ ap (λ (k : ℕ). replicate k 0) count in
    rw (front, ← tail) (ap (λ (xs : List ℕ). a ∷ b ∷ xs) (take-append-drop (2 * n) rest))

expression_back : (words : List Choice) (bytes : List ℕ) → are_choices 65535 words ≡ true → AllByRecursion (λ b. b < 256) bytes → is_expression bytes ≡ true → expression_said words (expression_shown words bytes) ≡ Some bytes
unfolding expression_said expression_shown
expression_back words bytes good all e =
    let is = expression_is bytes e in
    let n = be16_at bytes 0 in
    let steps = steps_at n (drop 2 bytes) in
    let behind = all_drop (λ b. b < 256) 2 bytes all in
    let small = steps_small n (drop 2 bytes) behind in
    let size = is.size in
    let few = is.few in
    let some = is.some in
    let count : length steps ≡ n = steps_length n (drop 2 bytes) in
    let room : 2 * n ≤ length (drop 2 bytes) = simp length-drop (omega (arith, size, few)) in
    let within : nat_le n 16 ≡ true = grind (arith, nat_tests) in
    rw (list_parts words steps (omega (arith, count, some)) good small, steps_back words steps good small, count, within, steps_bytes_are n (drop 2 bytes) behind room)
    (ap Some (whole_expression bytes all is n refl))

expression_plain : (words : List Choice) (bytes : List ℕ) → are_choices 65535 words ≡ true → AllByRecursion (λ b. b < 256) bytes → AllByRecursion IsPlain (expression_shown words bytes)
unfolding expression_shown
expression_plain words bytes good all =
    let steps = steps_at (be16_at bytes 0) (drop 2 bytes) in
    listed_plain false (map (choice_shown words) steps) (steps_are_marks words steps good (steps_small (be16_at bytes 0) (drop 2 bytes) (all_drop (λ b. b < 256) 2 bytes all)))

-- ---- values

-- the text of a value's bytes says them
pub value_back : (epoch : Option ℕ) (kind : Kind) (bytes : List ℕ) → is_kind kind ≡ true → AllByRecursion (λ b. b < 256) bytes → can_show kind bytes ≡ true → value_said epoch kind (value_shown kind bytes) ≡ Some bytes
unfolding value_said value_shown can_show is_kind
value_back epoch (Number w s) bytes good all e =
    let size : length bytes ≡ bytes_of w = grind (arith, nat_tests) in
    let is = number_is w bytes size all in
    ap (option_map (number_bytes w)) (spelling_back epoch w s bytes good all is) ∙ ap Some is.back
value_back epoch Name bytes good all e = name_back bytes e
value_back epoch Block bytes good all e = hex_is_bytes bytes all
value_back epoch (Expression words) bytes good all e = expression_back words.now bytes good all e

-- and has no space
pub value_plain : (kind : Kind) (bytes : List ℕ) → is_kind kind ≡ true → AllByRecursion (λ b. b < 256) bytes → can_show kind bytes ≡ true → AllByRecursion IsPlain (value_shown kind bytes)
unfolding value_shown can_show is_kind
value_plain (Number w s) bytes good all e =
    let size : length bytes ≡ bytes_of w = grind (arith, nat_tests) in
    spelling_plain w s bytes good (number_is w bytes size all)
value_plain Name bytes good all e = name_plain bytes e
value_plain Block bytes good all e = hex_is_plain bytes
value_plain (Expression words) bytes good all e = expression_plain words.now bytes good all

-- ---- rows

pub key_plain : (key : List ℕ) → list_all (nat_lt 32) key ≡ true → AllByRecursion IsPlain key
key_plain [] e = tt
key_plain (b ∷ key) e =
    let both = and_both (nat_lt 32 b) (list_all (nat_lt 32) key) e in
    let over = both.0 in
    (grind (arith, nat_tests, over), key_plain key both.1)

word_is : (key text : List ℕ) → AllByRecursion IsPlain key → AllByRecursion IsPlain text → IsWord (word_shown key text)
word_is key text first second = (simp length-append (omega arith), all_append IsPlain key (61 ∷ text) first (omega arith, second))

bytes_same : (xs : List ℕ) → bytes_eq xs xs ≡ true
bytes_same [] = refl
bytes_same (x ∷ xs) = let e : nat_eq x x ≡ true = grind (arith, nat_tests) in rw (e, bytes_same xs) refl

-- what comes behind the key of a word
pub key_back : (key text : List ℕ) → behind_key key (word_shown key text) ≡ Some text
unfolding behind_key
key_back key text =
    let front : starts_with nat_eq (key ++ 61 ∷ text) key ≡ true = rw (take-append_seam key (61 ∷ text)) (bytes_same key) in
    let here : get_or (key ++ 61 ∷ text) (length key) 0 ≡ 61 = at_seam key 61 text in
    let long : length key + 1 ≡ length (key ++ 61 ∷ []) = simp length-append (omega arith) in
    let behind : drop (length key + 1) (key ++ 61 ∷ text) ≡ text = rw (long, ← append_assoc key (61 ∷ []) text) (drop-append_seam (key ++ 61 ∷ []) text) in
    rw (front, here) (ap Some behind)
  where
    at_seam : (xs : List ℕ) (y : ℕ) (ys : List ℕ) → get_or (xs ++ y ∷ ys) (length xs) 0 ≡ y
    at_seam [] y ys = refl
    at_seam (x ∷ xs) y ys = at_seam xs y ys

pub field_back : (epoch : Option ℕ) (key : List ℕ) (kind : Kind) (bytes : List ℕ) → is_kind kind ≡ true → AllByRecursion (λ b. b < 256) bytes → can_show kind bytes ≡ true → field_said epoch key kind (word_shown key (value_shown kind bytes)) ≡ Ok bytes
unfolding field_said
field_back epoch key kind bytes good all e = rw (key_back key (value_shown kind bytes), value_back epoch kind bytes good all e) refl

pub row_nil : (epoch : Option ℕ) (n : ℕ) → row_said epoch n [] [] ≡ Ok []
unfolding row_said
row_nil epoch n = refl

pub row_value : (epoch : Option ℕ) (n : ℕ) (key : Bor (List ℕ)) (kind : Kind) (fs : List Field) (w : List ℕ) (ws : List (List ℕ)) (value behind : List ℕ) → field_said epoch key.now kind w ≡ Ok value → row_said epoch (n + 1) fs ws ≡ Ok behind → row_said epoch n (Value key kind ∷ fs) (w ∷ ws) ≡ Ok (value ++ behind)
unfolding row_said
row_value epoch n key kind fs w ws value behind e f = rw (e, f) refl

row_zeros : (epoch : Option ℕ) (n count : ℕ) (fs : List Field) (ws : List (List ℕ)) (behind : List ℕ) → row_said epoch n fs ws ≡ Ok behind → row_said epoch n (Zeros count ∷ fs) ws ≡ Ok (replicate count 0 ++ behind)
unfolding row_said
row_zeros epoch n count fs [] behind f = rw f refl
row_zeros epoch n count fs (w ∷ ws) behind f = rw f refl

row_check : (epoch : Option ℕ) (n : ℕ) (fs : List Field) (ws : List (List ℕ)) (behind : List ℕ) → row_said epoch n fs ws ≡ Ok behind → row_said epoch n (Check ∷ fs) ws ≡ Ok (be16_bytes (crc_of 0 behind) ++ behind)
unfolding row_said
row_check epoch n fs [] behind f = rw f refl
row_check epoch n fs (w ∷ ws) behind f = rw f refl

pub words_nil : (bytes : List ℕ) → row_words [] bytes ≡ []
unfolding row_words
words_nil bytes = refl

pub words_value : (key : Bor (List ℕ)) (kind : Kind) (fs : List Field) (bytes : List ℕ) → row_words (Value key kind ∷ fs) bytes ≡ word_shown key.now (value_shown kind (take (width kind bytes) bytes)) ∷ row_words fs (drop (width kind bytes) bytes)
unfolding row_words
words_value key kind fs bytes = refl

words_zeros : (count : ℕ) (fs : List Field) (bytes : List ℕ) → row_words (Zeros count ∷ fs) bytes ≡ row_words fs (drop count bytes)
unfolding row_words
words_zeros count fs bytes = refl

words_check : (fs : List Field) (bytes : List ℕ) → row_words (Check ∷ fs) bytes ≡ row_words fs (drop 2 bytes)
unfolding row_words
words_check fs bytes = refl

pub empty_row : (bytes : List ℕ) → is_row [] bytes ≡ true → [] ≡ bytes
unfolding is_row
empty_row [] e = refl
empty_row (b ∷ bytes) e = let none : length (b ∷ bytes) ≡ 0 = grind (arith, nat_tests) in absurd (omega (arith, none))

zeros_back : (count : ℕ) (bytes : List ℕ) → count ≤ length bytes → list_all (λ b. b == 0) (take count bytes) ≡ true → replicate count 0 ++ drop count bytes ≡ bytes
zeros_back count bytes room zeros =
    let long : length (take count bytes) ≡ count = simp length-take (omega (arith, room)) in
    ap (λ (k : ℕ). replicate k 0 ++ drop count bytes) (sym long) ∙ ap (λ (xs : List ℕ). xs ++ drop count bytes) (sym (zeros_are (take count bytes) zeros)) ∙ take-append-drop count bytes

check_back : (bytes : List ℕ) → AllByRecursion (λ b. b < 256) bytes → 2 ≤ length bytes → be16_at bytes 0 ≡ crc_of 0 (drop 2 bytes) → be16_bytes (crc_of 0 (drop 2 bytes)) ++ drop 2 bytes ≡ bytes
check_back [] all room e = absurd (omega (arith, room))
check_back (a ∷ []) all room e = absurd (omega (arith, room))
check_back (a ∷ b ∷ rest) all room e = ap (λ (n : ℕ). be16_bytes n ++ rest) (sym e) ∙ ap (λ (xs : List ℕ). xs ++ rest) (be16_back a b rest all.0 all.1.0)

-- the words of a row's bytes say them
pub row_back : (epoch : Option ℕ) (n : ℕ) (fs : List Field) (bytes : List ℕ) → are_fields fs ≡ true → AllByRecursion (λ b. b < 256) bytes → is_row fs bytes ≡ true → row_said epoch n fs (row_words fs bytes) ≡ Ok bytes
row_back epoch n [] bytes good all e = rw (words_nil bytes) (row_nil epoch n ∙ ap Ok (empty_row bytes e))
row_back epoch n (Value key kind ∷ fs) bytes good all e =
    let both = and_both (list_all (nat_lt 32) key.now && is_kind kind) (are_fields fs) good in
    let kind_good = (and_both (list_all (nat_lt 32) key.now) (is_kind kind) both.0).1 in
    let is = row_shows key kind fs bytes e in
    let w = width kind bytes in
    let value = field_back epoch key.now kind (take w bytes) kind_good (all_take (λ b. b < 256) w bytes all) is.shows in
    let behind = row_back epoch (n + 1) fs (drop w bytes) both.1 (all_drop (λ b. b < 256) w bytes all) is.behind in
    rw (words_value key kind fs bytes) (row_value epoch n key kind fs (word_shown key.now (value_shown kind (take w bytes))) (row_words fs (drop w bytes)) (take w bytes) (drop w bytes) value behind ∙ ap Ok (take-append-drop w bytes))
row_back epoch n (Zeros count ∷ fs) bytes good all e =
    let is = row_has_zeros count fs bytes e in
    let behind = row_back epoch n fs (drop count bytes) good (all_drop (λ b. b < 256) count bytes all) is.behind in
    rw (words_zeros count fs bytes) (row_zeros epoch n count fs (row_words fs (drop count bytes)) (drop count bytes) behind ∙ ap Ok (zeros_back count bytes is.room is.zeros))
row_back epoch n (Check ∷ fs) bytes good all e =
    let is = row_has_check fs bytes e in
    let behind = row_back epoch n fs (drop 2 bytes) good (all_drop (λ b. b < 256) 2 bytes all) is.behind in
    rw (words_check fs bytes) (row_check epoch n fs (row_words fs (drop 2 bytes)) (drop 2 bytes) behind ∙ ap Ok (check_back bytes all is.room is.check))

-- the words of a row are words
pub row_words_are : (fs : List Field) (bytes : List ℕ) → are_fields fs ≡ true → AllByRecursion (λ b. b < 256) bytes → is_row fs bytes ≡ true → AllByRecursion IsWord (row_words fs bytes)
row_words_are [] bytes good all e = rw (words_nil bytes) tt
row_words_are (Value key kind ∷ fs) bytes good all e =
    let both = and_both (list_all (nat_lt 32) key.now && is_kind kind) (are_fields fs) good in
    let good_value = and_both (list_all (nat_lt 32) key.now) (is_kind kind) both.0 in
    let is = row_shows key kind fs bytes e in
    let w = width kind bytes in
    let text = value_plain kind (take w bytes) good_value.1 (all_take (λ b. b < 256) w bytes all) is.shows in
    rw (words_value key kind fs bytes) (word_is key.now (value_shown kind (take w bytes)) (key_plain key.now good_value.0) text, row_words_are fs (drop w bytes) both.1 (all_drop (λ b. b < 256) w bytes all) is.behind)
row_words_are (Zeros count ∷ fs) bytes good all e =
    let is = row_has_zeros count fs bytes e in
    rw (words_zeros count fs bytes) (row_words_are fs (drop count bytes) good (all_drop (λ b. b < 256) count bytes all) is.behind)
row_words_are (Check ∷ fs) bytes good all e =
    let is = row_has_check fs bytes e in
    rw (words_check fs bytes) (row_words_are fs (drop 2 bytes) good (all_drop (λ b. b < 256) 2 bytes all) is.behind)
