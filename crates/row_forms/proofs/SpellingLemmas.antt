-- Lemmas on numbers that are shown and read back.
use Rattle.std.proofs.Common.{◌≡◌, ℕ, zero, suc, ◌+◌, ◌*◌, ◌-◌, ◌<◌, ◌≤◌, ◌/◌, ◌%◌, ◌^◌, Bool, true, false, List, [], ◌∷◌, ◌++◌, length, map, get_or, refl, sym, ◌∙◌, ap, arith, Option, Some, eq-eqb}
use Rattle.std.specs.Prelude.{◌==◌, ◌&&◌, not, nat_lt, nat_le, nat_eq, decimal, codes}
use Rattle.std.specs.List.{AllByRecursion, list_all}
use Rattle.std.specs.Char.{is_digit}
use Rattle.std.specs.Str.{bytes_eq}
use Rattle.std.proofs.Math.Nat.{pow-suc}
use Rattle.std.proofs.lemmas.Bool.Decides.{nat_tests}
use Rattle.packet_forms.specs.Hex.{hex}
use Rattle.packet_forms.specs.Numbers.{be16_at, be32_at, be16_bytes, be32_bytes}
use Rattle.row_forms.specs.declared.field.Choice.{Choice}
use Rattle.row_forms.specs.declared.field.Spelling.{Spelling}
use Rattle.row_forms.specs.declared.field.Spelling.TheVariants as spellings
use Rattle.row_forms.specs.declared.field.Width.{Width}
use Rattle.row_forms.specs.declared.field.Width.TheVariants.{U8, U16, U32}
use Rattle.row_forms.specs.Words.{number, at_most}
use Rattle.row_forms.specs.Lists.{parts, listed}
use Rattle.row_forms.specs.Numbers.{bytes_of, most_of, number_bytes, number_at, choice_said, choice_shown, is_mark, is_choice_text, are_choices, bit_said, bits_said, mask_said, bits_of, mask_shown, time_said, number_said, number_shown}
use Rattle.row_forms.specs.Values.{is_spelling}
use Rattle.row_forms.proofs.TextLemmas.{IsPlain, IsMark, and_both, all_append, marks_are_plain, parts_listed, listed_plain, begins_plain, decimal_marks, decimal_is_number, decimal_differs, decimal_no_plus, decimal_led}
use Rattle.row_forms.proofs.HexLemmas.{bytes_value, hex_is_number, hex_is_plain}

-- ---- bytes of numbers

abbrev AreBytes : List ℕ → Type 0
AreBytes bytes = AllByRecursion (λ b. b < 256) bytes

-- what is known of the bytes of a number
pub record IsNumber (w : Width) (bytes : List ℕ) : Type 0 where
  pub within : number_at w bytes ≤ most_of w
  pub small : number_at w bytes < 4294967296
  pub back : number_bytes w (number_at w bytes) ≡ bytes
  pub horner : bytes_value 0 bytes ≡ number_at w bytes
  pub some : 0 < length bytes
  pub few : length bytes ≤ 4

two : (a b c d : ℕ) → a ≡ c → b ≡ d → ◌≡◌ {A = List ℕ} (a ∷ b ∷ []) (c ∷ d ∷ [])
two a b c d e f = cc

four : (a b c d a' b' c' d' : ℕ) → a ≡ a' → b ≡ b' → c ≡ c' → d ≡ d' → ◌≡◌ {A = List ℕ} (a ∷ b ∷ c ∷ d ∷ []) (a' ∷ b' ∷ c' ∷ d' ∷ [])
four a b c d a' b' c' d' e f g h = cc

pub number_is : (w : Width) (bytes : List ℕ) → length bytes ≡ bytes_of w → AllByRecursion (λ b. b < 256) bytes → IsNumber w bytes
unfolding be16_at be32_at be16_bytes be32_bytes
number_is U8 [] long all = absurd (omega (arith, long))
number_is U8 (a ∷ []) long all = let small = all.0 in record {
  within = omega (arith, small);
  small = omega (arith, small);
  back = (let same : a % 256 ≡ a = omega (arith, small) in cc);
  horner = omega arith;
  some = omega arith;
  few = omega arith;
}
number_is U8 (a ∷ b ∷ rest) long all = absurd (omega (arith, long))
number_is U16 [] long all = absurd (omega (arith, long))
number_is U16 (a ∷ []) long all = absurd (omega (arith, long))
number_is U16 (a ∷ b ∷ []) long all = let first = all.0 in let second = all.1.0 in record {
  within = omega (arith, first, second);
  small = omega (arith, first, second);
  back = two _ _ _ _ (omega (arith, first, second)) (omega (arith, first, second));
  horner = omega arith;
  some = omega arith;
  few = omega arith;
}
number_is U16 (a ∷ b ∷ c ∷ rest) long all = absurd (omega (arith, long))
number_is U32 [] long all = absurd (omega (arith, long))
number_is U32 (a ∷ []) long all = absurd (omega (arith, long))
number_is U32 (a ∷ b ∷ []) long all = absurd (omega (arith, long))
number_is U32 (a ∷ b ∷ c ∷ []) long all = absurd (omega (arith, long))
number_is U32 (a ∷ b ∷ c ∷ d ∷ []) long all = let f1 = all.0 in let f2 = all.1.0 in let f3 = all.1.1.0 in let f4 = all.1.1.1.0 in record {
  within = omega (arith, f1, f2, f3, f4);
  small = omega (arith, f1, f2, f3, f4);
  back = four _ _ _ _ _ _ _ _ (omega (arith, f1, f2, f3, f4)) (omega (arith, f1, f2, f3, f4)) (omega (arith, f1, f2, f3, f4)) (omega (arith, f1, f2, f3, f4));
  horner = omega arith;
  some = omega arith;
  few = omega arith;
}
number_is U32 (a ∷ b ∷ c ∷ d ∷ e ∷ rest) long all = absurd (omega (arith, long))

-- ---- choices

-- what is asked of the first of choices
record IsChoice (most : ℕ) (c : Choice) (cs : List Choice) : Type 0 where
  text : is_choice_text c.text.now ≡ true
  within : c.number ≤ most
  others : list_all (λ d. not (bytes_eq d.text.now c.text.now)) cs ≡ true
  behind : are_choices most cs ≡ true

choices_are : (most : ℕ) (c : Choice) (cs : List Choice) → are_choices most (c ∷ cs) ≡ true → IsChoice most c cs
unfolding are_choices
choices_are most c cs e =
    let x = and_both (is_choice_text c.text.now && nat_le c.number most && list_all (λ d. not (bytes_eq d.text.now c.text.now)) cs) (are_choices most cs) e in
    let y = and_both (is_choice_text c.text.now && nat_le c.number most) (list_all (λ d. not (bytes_eq d.text.now c.text.now)) cs) x.0 in
    let z = and_both (is_choice_text c.text.now) (nat_le c.number most) y.0 in
    let low = z.1 in
    record { text = z.0; within = grind (arith, nat_tests, low); others = y.1; behind = x.1 }

choice_marks : (text : List ℕ) → list_all is_mark text ≡ true → AllByRecursion IsMark text
choice_marks [] e = tt
choice_marks (b ∷ text) e =
    let both = and_both (is_mark b) (list_all is_mark text) e in
    let here = and_both (nat_lt 32 b) (not (b == 44)) both.0 in
    let over = here.0 in
    let other = here.1 in
    let no_comma : (b == 44) ≡ false = grind (arith, nat_tests, other) in
    ((grind (arith, nat_tests, over), no_comma), choice_marks text both.1)

text_marks : (text : List ℕ) → is_choice_text text ≡ true → AllByRecursion IsMark text
text_marks text e = choice_marks text (and_both (nat_lt 0 (length text) && not (is_digit (get_or text 0 0) 10)) (list_all is_mark text) e).1

text_begins : (text : List ℕ) → is_choice_text text ≡ true → begins_plain text ≡ true
text_begins [] e = absurd (cc)
text_begins (c ∷ cs) e = (and_both (nat_lt 0 (length (c ∷ cs))) (not (is_digit c 10)) (and_both (nat_lt 0 (length (c ∷ cs)) && not (is_digit c 10)) (list_all is_mark (c ∷ cs)) e).0).1

shown_here : (c : Choice) (cs : List Choice) (n : ℕ) → (c.number == n) ≡ true → choice_shown (c ∷ cs) n ≡ c.text.now
unfolding choice_shown
shown_here c cs n e = rw e refl

shown_behind : (c : Choice) (cs : List Choice) (n : ℕ) → (c.number == n) ≡ false → choice_shown (c ∷ cs) n ≡ choice_shown cs n
unfolding choice_shown
shown_behind c cs n e = rw e refl

shown_none : (n : ℕ) → choice_shown [] n ≡ decimal n
unfolding choice_shown
shown_none n = refl

said_here : (most : ℕ) (c : Choice) (cs : List Choice) (text : List ℕ) → bytes_eq c.text.now text ≡ true → choice_said most (c ∷ cs) text ≡ at_most most c.number
unfolding choice_said
said_here most c cs text e = rw e refl

said_behind : (most : ℕ) (c : Choice) (cs : List Choice) (text : List ℕ) → bytes_eq c.text.now text ≡ false → choice_said most (c ∷ cs) text ≡ choice_said most cs text
unfolding choice_said
said_behind most c cs text e = rw e refl

said_none : (most : ℕ) (text : List ℕ) → choice_said most [] text ≡ number most text
unfolding choice_said
said_none most text = refl

bytes_same : (xs : List ℕ) → bytes_eq xs xs ≡ true
bytes_same [] = refl
bytes_same (x ∷ xs) = let e : nat_eq x x ≡ true = eq-eqb x x refl in rw (e, bytes_same xs) refl

bytes_turned : (xs ys : List ℕ) → bytes_eq xs ys ≡ false → bytes_eq ys xs ≡ false
bytes_turned [] [] e = e
bytes_turned [] (y ∷ ys) e = refl
bytes_turned (x ∷ xs) [] e = refl
bytes_turned (x ∷ xs) (y ∷ ys) e = by (nat_eq x y) refl e (bytes_turned xs ys) where
  by : (b : Bool) → nat_eq x y ≡ b → (b && bytes_eq xs ys) ≡ false → (bytes_eq xs ys ≡ false → bytes_eq ys xs ≡ false) → (nat_eq y x && bytes_eq ys xs) ≡ false
  by true s r behind =
      let t : nat_eq y x ≡ true = grind (arith, nat_tests) in
      rw t (behind r)
  by false s r behind =
      let t : nat_eq y x ≡ false = grind (arith, nat_tests) in
      rw t refl

others_first : (text : List ℕ) (c : Choice) (cs : List Choice) → list_all (λ d. not (bytes_eq d.text.now text)) (c ∷ cs) ≡ true → (bytes_eq c.text.now text ≡ false) × (list_all (λ d. not (bytes_eq d.text.now text)) cs ≡ true)
others_first text c cs e =
    let both = and_both (not (bytes_eq c.text.now text)) (list_all (λ d. not (bytes_eq d.text.now text)) cs) e in
    (by (bytes_eq c.text.now text) both.0, both.1) where
      by : (b : Bool) → not b ≡ true → b ≡ false
      by true h = absurd (cc)
      by false h = refl

-- no text of other choices is this one
differs : (text : List ℕ) (cs : List Choice) (n : ℕ) → begins_plain text ≡ true → list_all (λ d. not (bytes_eq d.text.now text)) cs ≡ true → n < 4294967296 → bytes_eq text (choice_shown cs n) ≡ false
differs text [] n plain others small = rw (shown_none n) (decimal_differs text n plain small)
differs text (c ∷ cs) n plain others small =
    let both = others_first text c cs others in
    by (c.number == n) refl (bytes_turned c.text.now text both.0) (differs text cs n plain both.1 small) where
      by : (b : Bool) → (c.number == n) ≡ b → bytes_eq text c.text.now ≡ false → bytes_eq text (choice_shown cs n) ≡ false → bytes_eq text (choice_shown (c ∷ cs) n) ≡ false
      by true e here behind = rw (shown_here c cs n e) here
      by false e here behind = rw (shown_behind c cs n e) behind

-- the text of a number says it
pub choice_back : (most : ℕ) (cs : List Choice) (n : ℕ) → are_choices most cs ≡ true → n ≤ most → n < 4294967296 → choice_said most cs (choice_shown cs n) ≡ Some n
choice_back most [] n good within small = said_none most (choice_shown [] n) ∙ ap (λ (xs : List ℕ). number most xs) (shown_none n) ∙ decimal_is_number most n within small
choice_back most (c ∷ cs) n good within small =
    let is = choices_are most c cs good in
    by (c.number == n) refl (differs c.text.now cs n (text_begins c.text.now is.text) is.others small) (choice_back most cs n is.behind within small) where
      by : (b : Bool) → (c.number == n) ≡ b → bytes_eq c.text.now (choice_shown cs n) ≡ false → choice_said most cs (choice_shown cs n) ≡ Some n → choice_said most (c ∷ cs) (choice_shown (c ∷ cs) n) ≡ Some n
      by true e other behind =
          let same : c.number ≡ n = grind (arith, nat_tests) in
          let low : nat_le n most ≡ true = grind (arith, nat_tests) in
          rw (shown_here c cs n e) (said_here most c cs c.text.now (bytes_same c.text.now) ∙ rw (same, low) refl)
      by false e other behind = rw (shown_behind c cs n e) (said_behind most c cs (choice_shown cs n) other ∙ behind)

-- and is a mark
pub choice_is_mark : (most : ℕ) (cs : List Choice) (n : ℕ) → are_choices most cs ≡ true → n < 4294967296 → AllByRecursion IsMark (choice_shown cs n)
choice_is_mark most [] n good small = rw (shown_none n) (decimal_marks n small)
choice_is_mark most (c ∷ cs) n good small =
    let is = choices_are most c cs good in
    by (c.number == n) refl (text_marks c.text.now is.text) (choice_is_mark most cs n is.behind small) where
      by : (b : Bool) → (c.number == n) ≡ b → AllByRecursion IsMark c.text.now → AllByRecursion IsMark (choice_shown cs n) → AllByRecursion IsMark (choice_shown (c ∷ cs) n)
      by true e here behind = rw (shown_here c cs n e) here
      by false e here behind = rw (shown_behind c cs n e) behind

-- ---- masks

no_bits : (first n : ℕ) → bits_of zero first n ≡ []
unfolding bits_of
no_bits first n = refl

bits_odd : (bits first n : ℕ) → (n % 2 == 1) ≡ true → bits_of (suc bits) first n ≡ first ∷ bits_of bits (first + 1) (n / 2)
unfolding bits_of
bits_odd bits first n odd = rw odd refl

bits_even : (bits first n : ℕ) → (n % 2 == 1) ≡ false → bits_of (suc bits) first n ≡ bits_of bits (first + 1) (n / 2)
unfolding bits_of
bits_even bits first n even = rw even refl

nothing_said : (bits last : ℕ) → bits_said bits last [] ≡ Some 0
unfolding bits_said
nothing_said bits last = refl

bit_before : (bits last bit m : ℕ) (part : List ℕ) (more : List (List ℕ)) → bit_said bits last part ≡ Some bit → bits_said bits bit more ≡ Some m → bits_said bits last (part ∷ more) ≡ Some (2 ^ (bit - 1) + m)
unfolding bits_said
bit_before bits last bit m part more e f = rw (e, f) refl

bit_is : (bits last bit : ℕ) → last < bit → bit ≤ bits → bits ≤ 32 → bit_said bits last (decimal bit) ≡ Some bit
bit_is bits last bit above within few =
    let e = decimal_is_number bits bit within (omega (arith, within, few)) in
    let low : nat_lt last bit ≡ true = grind (arith, nat_tests) in
    rw (e, low) refl

odd_power : (h p : ℕ) → p + h * (2 * p) ≡ (2 * h + 1) * p
odd_power h p = omega arith

even_power : (h p : ℕ) → h * (2 * p) ≡ (2 * h) * p
even_power h p = omega arith

-- the power of the next bit
power_next : (first : ℕ) → 0 < first → 2 ^ (first + 1 - 1) ≡ 2 * 2 ^ (first - 1)
power_next first some =
    let e : first + 1 - 1 ≡ suc (first - 1) = omega arith in
    ap (λ (n : ℕ). 2 ^ n) e ∙ pow-suc 2 (first - 1) ∙ omega arith

half_small : (k n : ℕ) → n < 2 ^ suc k → n / 2 < 2 ^ k
half_small k n small = let twice = pow-suc 2 k in omega (arith, small, twice)

bits_back : (k bits first last n : ℕ) → last < first → first + k ≡ bits + 1 → bits ≤ 32 → n < 2 ^ k → bits_said bits last (map decimal (bits_of k first n)) ≡ Some (n * 2 ^ (first - 1))
bits_back zero bits first last n above room few small =
    let none : n ≡ 0 = omega (arith, small) in
    rw (no_bits first n) (nothing_said bits last ∙ ap Some (let e : 0 ≡ n * 2 ^ (first - 1) = rw none (omega arith) in e))
bits_back (suc k) bits first last n above room few small =
    let high : n / 2 < 2 ^ k = half_small k n small in
    let next : first + 1 + k ≡ bits + 1 = omega (arith, room) in
    by (n % 2 == 1) refl (bits_back k bits (first + 1) first (n / 2) (omega arith) next few high) (bits_back k bits (first + 1) last (n / 2) (omega (arith, above)) next few high) where
      by : (b : Bool) → (n % 2 == 1) ≡ b → bits_said bits first (map decimal (bits_of k (first + 1) (n / 2))) ≡ Some (n / 2 * 2 ^ (first + 1 - 1)) → bits_said bits last (map decimal (bits_of k (first + 1) (n / 2))) ≡ Some (n / 2 * 2 ^ (first + 1 - 1)) → bits_said bits last (map decimal (bits_of (suc k) first n)) ≡ Some (n * 2 ^ (first - 1))
      by true e behind other =
          let odd : n ≡ 2 * (n / 2) + 1 = let h : n % 2 ≡ 1 = grind (arith, nat_tests) in omega (arith, h) in
          let power = power_next first (omega (arith, above)) in
          rw (bits_odd k first n e)
          (bit_before bits last first (n / 2 * 2 ^ (first + 1 - 1)) (decimal first) (map decimal (bits_of k (first + 1) (n / 2))) (bit_is bits last first above (omega (arith, room)) few) behind
          ∙ ap Some (ap (λ (p : ℕ). 2 ^ (first - 1) + n / 2 * p) power ∙ odd_power (n / 2) (2 ^ (first - 1)) ∙ ap (λ (m : ℕ). m * 2 ^ (first - 1)) (sym odd)))
      by false e behind other =
          let even : n ≡ 2 * (n / 2) = let h : n % 2 ≡ 1 → ⊥ = grind (arith, nat_tests) in omega (arith, h) in
          let power = power_next first (omega (arith, above)) in
          rw (bits_even k first n e) (other ∙ ap Some (ap (λ (p : ℕ). n / 2 * p) power ∙ even_power (n / 2) (2 ^ (first - 1)) ∙ ap (λ (m : ℕ). m * 2 ^ (first - 1)) (sym even)))

bits_small : (k first n : ℕ) → first + k ≤ 33 → AllByRecursion (λ b. b < 4294967296) (bits_of k first n)
bits_small zero first n room = rw (no_bits first n) tt
bits_small (suc k) first n room = by (n % 2 == 1) refl (bits_small k (first + 1) (n / 2) (omega (arith, room))) where
  by : (b : Bool) → (n % 2 == 1) ≡ b → AllByRecursion (λ b. b < 4294967296) (bits_of k (first + 1) (n / 2)) → AllByRecursion (λ b. b < 4294967296) (bits_of (suc k) first n)
  by true e behind = rw (bits_odd k first n e) (omega (arith, room), behind)
  by false e behind = rw (bits_even k first n e) behind

numbers_are_marks : (ns : List ℕ) → AllByRecursion (λ b. b < 4294967296) ns → AllByRecursion (AllByRecursion IsMark) (map decimal ns)
numbers_are_marks [] all = tt
numbers_are_marks (n ∷ ns) all = (decimal_marks n all.0, numbers_are_marks ns all.1)

listed_led : (part : List ℕ) (more : List (List ℕ)) → listed false (part ∷ more) ≡ part ++ listed true more
unfolding listed
listed_led part more = refl

mask_none : (bits : ℕ) → mask_said bits (codes "none") ≡ Some 0
unfolding mask_said
mask_none bits = refl

mask_some : (bits : ℕ) (text : List ℕ) → bytes_eq text (codes "none") ≡ false → mask_said bits text ≡ bits_said bits 0 (parts text)
unfolding mask_said
mask_some bits text e = rw e refl

shown_no_bits : (bits n : ℕ) → (n == 0) ≡ true → mask_shown bits n ≡ codes "none"
unfolding mask_shown
shown_no_bits bits n e = rw e refl

shown_bits : (bits n : ℕ) → (n == 0) ≡ false → mask_shown bits n ≡ listed false (map decimal (bits_of bits 1 n))
unfolding mask_shown
shown_bits bits n e = rw e refl

list_back : (bits n : ℕ) (bs : List ℕ) → AllByRecursion (λ b. b < 4294967296) bs → bits_said bits 0 (map decimal bs) ≡ Some n → (n == 0) ≡ false → mask_said bits (listed false (map decimal bs)) ≡ Some n
list_back bits n [] small said some =
    let none : 0 ≡ n = (let e = sym (nothing_said bits 0) ∙ said in cc) in
    let zero_is : (n == 0) ≡ true = rw (← none) refl in
    absurd (cc)
list_back bits n (b ∷ bs) small said some =
    let other : bytes_eq (listed false (decimal b ∷ map decimal bs)) (codes "none") ≡ false = rw (listed_led (decimal b) (map decimal bs)) (decimal_led b (listed true (map decimal bs)) (codes "none") refl small.0) in
    mask_some bits (listed false (decimal b ∷ map decimal bs)) other
    ∙ ap (bits_said bits 0) (parts_listed (decimal b) (map decimal bs) (decimal_marks b small.0) (numbers_are_marks bs small.1)) ∙ said

-- the text of a mask says it
pub mask_back : (bits n : ℕ) → bits ≤ 32 → n < 2 ^ bits → mask_said bits (mask_shown bits n) ≡ Some n
mask_back bits n few small = by (n == 0) refl where
  by : (b : Bool) → (n == 0) ≡ b → mask_said bits (mask_shown bits n) ≡ Some n
  by true e = let none : 0 ≡ n = grind (arith, nat_tests) in rw (shown_no_bits bits n e) (mask_none bits ∙ ap Some none)
  by false e =
      let said = bits_back bits bits 1 0 n (omega arith) (omega arith) few small in
      let one : n * 2 ^ (1 - 1) ≡ n = omega arith in
      rw (shown_bits bits n e) (list_back bits n (bits_of bits 1 n) (bits_small bits 1 n (omega (arith, few))) (said ∙ ap Some one) e)

none_plain : AllByRecursion IsPlain (codes "none")
none_plain = (omega arith, (omega arith, (omega arith, (omega arith, tt))))

pub mask_plain : (bits n : ℕ) → bits ≤ 32 → AllByRecursion IsPlain (mask_shown bits n)
mask_plain bits n few = by (n == 0) refl where
  by : (b : Bool) → (n == 0) ≡ b → AllByRecursion IsPlain (mask_shown bits n)
  by true e = rw (shown_no_bits bits n e) none_plain
  by false e = rw (shown_bits bits n e) (listed_plain false (map decimal (bits_of bits 1 n)) (numbers_are_marks (bits_of bits 1 n) (bits_small bits 1 n (omega (arith, few)))))

-- ---- times

-- the text of a time says it, whatever the epoch
pub time_back : (epoch : Option ℕ) (most n : ℕ) → n ≤ most → n < 4294967296 → time_said epoch most (decimal n) ≡ Some n
unfolding time_said
time_back epoch most n within small = rw (decimal_no_plus n small) (decimal_is_number most n within small)

-- ---- all spellings

mask_room : (w : Width) → (8 * bytes_of w ≤ 32) × (most_of w < 2 ^ (8 * bytes_of w))
mask_room U8 = (omega arith, omega arith)
mask_room U16 = (omega arith, omega arith)
mask_room U32 = (omega arith, omega arith)

-- the text of a number says it
pub spelling_back : (epoch : Option ℕ) (w : Width) (s : Spelling) (bytes : List ℕ) → is_spelling w s ≡ true → AllByRecursion (λ b. b < 256) bytes → IsNumber w bytes → number_said epoch w s (number_shown w s (number_at w bytes) bytes) ≡ Some (number_at w bytes)
spelling_back epoch w spellings.Decimal bytes good all is = decimal_is_number (most_of w) (number_at w bytes) is.within is.small
spelling_back epoch w spellings.Hex bytes good all is = hex_is_number (most_of w) bytes all is.some is.few (rw is.horner is.within) ∙ ap Some is.horner
spelling_back epoch w (spellings.Choice choices) bytes good all is = choice_back (most_of w) choices.now (number_at w bytes) good is.within is.small
spelling_back epoch w spellings.Mask bytes good all is = let room = mask_room w in mask_back (8 * bytes_of w) (number_at w bytes) room.0 (omega (arith, room.1, is.within))
spelling_back epoch w spellings.Time bytes good all is = time_back epoch (most_of w) (number_at w bytes) is.within is.small

zero_x : AllByRecursion IsPlain (codes "0x")
zero_x = (omega arith, (omega arith, tt))

-- and has no space
pub spelling_plain : (w : Width) (s : Spelling) (bytes : List ℕ) → is_spelling w s ≡ true → IsNumber w bytes → AllByRecursion IsPlain (number_shown w s (number_at w bytes) bytes)
spelling_plain w spellings.Decimal bytes good is = marks_are_plain (decimal (number_at w bytes)) (decimal_marks (number_at w bytes) is.small)
spelling_plain w spellings.Hex bytes good is = all_append IsPlain (codes "0x") (hex bytes) zero_x (hex_is_plain bytes)
spelling_plain w (spellings.Choice choices) bytes good is = marks_are_plain (choice_shown choices.now (number_at w bytes)) (choice_is_mark (most_of w) choices.now (number_at w bytes) good is.small)
spelling_plain w spellings.Mask bytes good is = mask_plain (8 * bytes_of w) (number_at w bytes) (mask_room w).0
spelling_plain w spellings.Time bytes good is = marks_are_plain (decimal (number_at w bytes)) (decimal_marks (number_at w bytes) is.small)
