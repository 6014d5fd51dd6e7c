-- Lemmas on the loops and recursions that read and show numbers.
use Rattle.std.proofs.Common.{◌≡◌, ◌==◌, ℕ, zero, ◌+◌, ◌-◌, ◌*◌, ◌/◌, ◌%◌, ◌^◌, ◌<◌, ◌≤◌, suc, Bool, true, false, List, [], ◌∷◌, ◌++◌, length, drop, map, get_or, Option, Some, None, refl, ap, sym, ◌∙◌, arith, add-one, drop-cons, append_assoc, append-nil, lit<, if◌then◌else◌, eq-eqb, Bor}
use Rattle.std.specs.Prelude.{decimal, MatchOption, OnOk, is_ok, Result, Ok, Err}
use Rattle.std.specs.declared.alloc.AllocError.{AllocError}
use Rattle.std.specs.Str.{bytes_eq}
use Rattle.std.proofs.Math.Nat.{pow-suc, pow-le-pow_right}
use Rattle.std.proofs.lemmas.Bool.Decides.{nat_tests}
use Rattle.std.proofs.lemmas.List.{drop_all}
use Rattle.row_forms.specs.declared.field.Choice.{Choice}
use Rattle.row_forms.specs.Words.{number, at_most}
use Rattle.row_forms.specs.Lists.{parts, listed, behind_comma}
use Rattle.row_forms.specs.Numbers.{choice_said, choice_shown, bit_said, bits_said, bits_of}

-- ---- choices

choice_cons : (most : ℕ) (c : Choice) (cs : List Choice) (text : List ℕ) → choice_said most (c ∷ cs) text ≡ (if bytes_eq c.text.now text then at_most most c.number else choice_said most cs text)
unfolding choice_said
choice_cons most c cs text = refl

choice_step : (most : ℕ) (cs : List Choice) (i : ℕ) (d : Choice) (text : List ℕ) → i < length cs → choice_said most (drop i cs) text ≡ (if bytes_eq (get_or cs i d).text.now text then at_most most (get_or cs i d).number else choice_said most (drop (i + 1) cs) text)
choice_step most cs i d text h = rw add-one (ap (λ (xs : List Choice). choice_said most xs text) (drop-cons cs i d h) ∙ choice_cons most (get_or cs i d) (drop (suc i) cs) text)

pub choice_found : (most : ℕ) (cs : List Choice) (i : ℕ) (d : Choice) (bytes text : List ℕ) → i < length cs → bytes ≡ (get_or cs i d).text.now → true ≡ bytes_eq bytes text → choice_said most (drop i cs) text ≡ at_most most (get_or cs i d).number
choice_found most cs i d bytes text h e found =
    let t : bytes_eq (get_or cs i d).text.now text ≡ true = rw (← e) (sym found) in
    choice_step most cs i d text h ∙ rw t refl

pub choice_passed : (most : ℕ) (cs : List Choice) (i : ℕ) (d : Choice) (bytes text : List ℕ) → i < length cs → bytes ≡ (get_or cs i d).text.now → false ≡ bytes_eq bytes text → choice_said most (drop i cs) text ≡ choice_said most (drop (i + 1) cs) text
choice_passed most cs i d bytes text h e found =
    let t : bytes_eq (get_or cs i d).text.now text ≡ false = rw (← e) (sym found) in
    choice_step most cs i d text h ∙ rw t refl

choice_none : (most : ℕ) (text : List ℕ) → choice_said most [] text ≡ number most text
unfolding choice_said
choice_none most text = refl

pub choices_passed : (most : ℕ) (cs : List Choice) (i : ℕ) (text : List ℕ) → length cs ≤ i → choice_said most (drop i cs) text ≡ number most text
choices_passed most cs i text h = ap (λ (xs : List Choice). choice_said most xs text) (drop_all i cs h) ∙ choice_none most text

shown_cons : (c : Choice) (cs : List Choice) (n : ℕ) → choice_shown (c ∷ cs) n ≡ (if c.number == n then c.text.now else choice_shown cs n)
unfolding choice_shown
shown_cons c cs n = refl

shown_step : (cs : List Choice) (i : ℕ) (d : Choice) (n : ℕ) → i < length cs → choice_shown (drop i cs) n ≡ (if (get_or cs i d).number == n then (get_or cs i d).text.now else choice_shown (drop (i + 1) cs) n)
shown_step cs i d n h = rw add-one (ap (λ (xs : List Choice). choice_shown xs n) (drop-cons cs i d h) ∙ shown_cons (get_or cs i d) (drop (suc i) cs) n)

pub shown_found : (cs : List Choice) (i : ℕ) (d : Choice) (n : ℕ) → i < length cs → (get_or cs i d).number ≡ n → choice_shown (drop i cs) n ≡ (get_or cs i d).text.now
shown_found cs i d n h e =
    let t : ((get_or cs i d).number == n) ≡ true = eq-eqb _ _ e in
    shown_step cs i d n h ∙ rw t refl

different : (a b : ℕ) → (a ≡ b → ⊥) → (a == b) ≡ false
different a b h = grind (arith, nat_tests)

pub shown_passed : (cs : List Choice) (i : ℕ) (d : Choice) (n : ℕ) → i < length cs → ((get_or cs i d).number ≡ n → ⊥) → choice_shown (drop i cs) n ≡ choice_shown (drop (i + 1) cs) n
shown_passed cs i d n h e =
    let t : ((get_or cs i d).number == n) ≡ false = different _ _ e in
    shown_step cs i d n h ∙ rw t refl

shown_none : (n : ℕ) → choice_shown [] n ≡ decimal n
unfolding choice_shown
shown_none n = refl

pub choices_unshown : (cs : List Choice) (i n : ℕ) → length cs ≤ i → choice_shown (drop i cs) n ≡ decimal n
choices_unshown cs i n h = ap (λ (xs : List Choice). choice_shown xs n) (drop_all i cs h) ∙ shown_none n

-- ---- masks

pub bits_none : (bits last : ℕ) (part : List ℕ) (more : List (List ℕ)) → bit_said bits last part ≡ None → bits_said bits last (part ∷ more) ≡ None
unfolding bits_said
bits_none bits last part more e = rw e refl

pub bits_one : (bits last bit : ℕ) (part : List ℕ) → bit_said bits last part ≡ Some bit → bits_said bits last (part ∷ []) ≡ Some (2 ^ (bit - 1) + 0)
unfolding bits_said
bits_one bits last bit part e = rw e refl

pub bits_more : (bits last bit m : ℕ) (part : List ℕ) (more : List (List ℕ)) → bit_said bits last part ≡ Some bit → bits_said bits bit more ≡ Some m → bits_said bits last (part ∷ more) ≡ Some (2 ^ (bit - 1) + m)
unfolding bits_said
bits_more bits last bit m part more e f = rw (e, f) refl

pub bits_end : (bits last bit : ℕ) (part : List ℕ) (more : List (List ℕ)) → bit_said bits last part ≡ Some bit → bits_said bits bit more ≡ None → bits_said bits last (part ∷ more) ≡ None
unfolding bits_said
bits_end bits last bit part more e f = rw (e, f) refl

-- the power of a bit of at most 32
pub record IsPower (bits last bit power : ℕ) : Type 0 where
  pub above : 2 ^ last ≤ power
  pub within : 2 * power ≤ 2 ^ bits
  pub twice : 2 ^ bit ≡ 2 * power
  pub fits : 2 ^ bits ≤ 4294967296
  pub whole : 1 * power % 4294967296 ≡ power

pub bit_power : (bits last bit : ℕ) → bits ≤ 32 → last < bit → bit ≤ bits → IsPower bits last bit (2 ^ (bit - 1))
bit_power bits last bit few above within =
    let two : 1 ≤ 2 = omega arith in
    let low : 2 ^ last ≤ 2 ^ (bit - 1) = pow-le-pow_right {n = 2} (lit< tt) {i = last} {j = bit - 1} (omega arith) in
    let e : bit ≡ suc (bit - 1) = omega arith in
    let twice : 2 ^ bit ≡ 2 * 2 ^ (bit - 1) = ap (λ (n : ℕ). 2 ^ n) e ∙ pow-suc 2 (bit - 1) ∙ omega arith in
    let high : 2 ^ bit ≤ 2 ^ bits = pow-le-pow_right {n = 2} (lit< tt) {i = bit} {j = bits} within in
    let most : 2 ^ bits ≤ 4294967296 = pow-le-pow_right {n = 2} (lit< tt) {i = bits} {j = 32} few in
    record { above = low; within = omega (arith, twice, high); twice = twice; fits = most; whole = omega (arith, twice, high, most) }

bits_odd : (bits first n : ℕ) → n % 2 ≡ 1 → bits_of (suc bits) first n ≡ first ∷ bits_of bits (first + 1) (n / 2)
unfolding bits_of
bits_odd bits first n odd = let t : (n % 2 == 1) ≡ true = eq-eqb _ _ odd in rw t refl

bits_even : (bits first n : ℕ) → (n % 2 == 1) ≡ false → bits_of (suc bits) first n ≡ bits_of bits (first + 1) (n / 2)
unfolding bits_of
bits_even bits first n even = rw even refl

no_bits : (first n : ℕ) → bits_of zero first n ≡ []
unfolding bits_of
no_bits first n = refl

listed_cons : (led : Bool) (part : List ℕ) (more : List (List ℕ)) → listed led (part ∷ more) ≡ behind_comma led part ++ listed true more
unfolding listed
listed_cons led part more = refl

listed_nil : (led : Bool) → listed led [] ≡ []
unfolding listed
listed_nil led = refl

-- one bit more that is 1
pub bit_listed : (out : List ℕ) (led : Bool) (bits bit n : ℕ) → bit < bits → n % 2 ≡ 1
    → out ++ listed led (map decimal (bits_of (bits - bit) (bit + 1) n)) ≡ (out ++ behind_comma led (decimal (bit + 1))) ++ listed true (map decimal (bits_of (bits - (bit + 1)) (bit + 1 + 1) (n / 2)))
bit_listed out led bits bit n inside odd =
    let e : bits - bit ≡ suc (bits - (bit + 1)) = omega arith in
    rw (e, bits_odd (bits - (bit + 1)) (bit + 1) n odd, listed_cons, ← append_assoc) refl

-- one bit more that is 0
pub bit_unlisted : (out : List ℕ) (led : Bool) (bits bit n : ℕ) → bit < bits → (n % 2 == 1) ≡ false
    → out ++ listed led (map decimal (bits_of (bits - bit) (bit + 1) n)) ≡ out ++ listed led (map decimal (bits_of (bits - (bit + 1)) (bit + 1 + 1) (n / 2)))
bit_unlisted out led bits bit n inside even =
    let e : bits - bit ≡ suc (bits - (bit + 1)) = omega arith in
    rw (e, bits_even (bits - (bit + 1)) (bit + 1) n even) refl

-- no bit is left
pub bits_listed : (out : List ℕ) (led : Bool) (bits bit n : ℕ) → bits ≤ bit → out ++ listed led (map decimal (bits_of (bits - bit) (bit + 1) n)) ≡ out
bits_listed out led bits bit n done =
    let e : bits - bit ≡ zero = omega arith in
    rw (e, no_bits (bit + 1) n, listed_nil led, append-nil) refl

-- a part that is no number of a bit
pub bits_bad : (bits last : ℕ) (part text : List ℕ) (rest : Option (Bor (List ℕ))) → MatchOption rest (parts text ≡ part ∷ []) (λ r. parts text ≡ part ∷ parts r.now) → None ≡ bit_said bits last part → None ≡ bits_said bits last (parts text)
bits_bad bits last part text None e bad = sym (ap (bits_said bits last) e ∙ bits_none bits last part [] (sym bad))
bits_bad bits last part text (Some r) e bad = sym (ap (bits_said bits last) e ∙ bits_none bits last part (parts r.now) (sym bad))

-- bytes that are appended
pub pushed : (r : Result (Unit {0}) AllocError) (old kept new more text : List ℕ) → new ≡ (if is_ok r then kept ++ more else kept) → kept ≡ old → more ≡ text → OnOk r (new ≡ old ++ text)
pushed (Ok done) old kept new more text e same is = rw (e, same, is) refl
pushed (Err error) old kept new more text e same is = tt
