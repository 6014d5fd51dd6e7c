-- Lemmas on what rows mean.
use Rattle.std.proofs.Common.{◌≡◌, ℕ, zero, suc, ◌+◌, ◌-◌, ◌*◌, ◌≤◌, Bool, true, false, List, [], ◌∷◌, ◌++◌, length, take, drop, Option, Some, None, refl, ap, sym, ◌∙◌, arith, Bor}
use Rattle.std.specs.Prelude.{Result, Ok, Err, replicate, nat_le, option_map, option_and_then}
use Rattle.std.specs.List.{flat_map, AllByRecursion}
use Rattle.std.proofs.lemmas.Bool.Decides.{nat_tests}
use Rattle.std.proofs.lemmas.List.{length-replicate, take_at, drop_at}
use Rattle.packet_forms.specs.Crc.{crc_of}
use Rattle.packet_forms.specs.Names.{is_name, is_name_text, name_of}
use Rattle.packet_forms.specs.Numbers.{be16_at, be32_at, be16_bytes}
use Rattle.packet_forms.proofs.NameForms.{is_name-name_of}
use Rattle.row_forms.specs.declared.field.Choice.{Choice}
use Rattle.row_forms.specs.declared.field.Field.{Field}
use Rattle.row_forms.specs.declared.field.Field.TheVariants.{Value, Zeros, Check}
use Rattle.row_forms.specs.declared.field.Kind.{Kind}
use Rattle.row_forms.specs.declared.field.Kind.TheVariants.{Number, Name, Block, Expression}
use Rattle.row_forms.specs.declared.field.Spelling.{Spelling}
use Rattle.row_forms.specs.declared.field.Spelling.TheVariants as spellings
use Rattle.row_forms.specs.declared.field.Width.{Width}
use Rattle.row_forms.specs.declared.field.Width.TheVariants.{U8, U16, U32}
use Rattle.row_forms.specs.declared.fault.Reason.{Reason}
use Rattle.row_forms.specs.declared.fault.RowFault.{RowFault}
use Rattle.row_forms.specs.Lists.{parts}
use Rattle.row_forms.specs.Numbers.{bytes_of, number_at, choice_said}
use Rattle.row_forms.specs.Values.{value_said, width, reason_of, steps_said, steps_at, expression_of, expression_said}
use Rattle.row_forms.specs.Rows.{with_front, behind_key, value_or, keyed_said, field_said, row_said}
use Rattle.row_forms.specs.Words.{name_said}
use Rattle.row_forms.specs.Worked.{choices_at}
use Rattle.row_forms.proofs.RowNumberLemmas.{then_parts, check_parts}
use Rattle.row_forms.proofs.SizeLemmas.{said_number, field_size}
use Rattle.hs_tables.specs.Names.{name_of_bytes}
use Rattle.table_meanings.specs.Meanings.{Amount, Called, Steps, Keyed, expression_meant, text_meaning, word_meanings, meanings_said, kind_meanings, meanings_in}

-- ---- numbers

pub first_number : (w : Width) (value rest : List ℕ) → length value ≡ bytes_of w → number_at w (value ++ rest) ≡ number_at w value
unfolding be16_at be32_at
first_number U8 [] rest e = absurd (omega (arith, e))
first_number U8 (a ∷ value) rest e = refl
first_number U16 [] rest e = absurd (omega (arith, e))
first_number U16 (a ∷ []) rest e = absurd (omega (arith, e))
first_number U16 (a ∷ b ∷ value) rest e = refl
first_number U32 [] rest e = absurd (omega (arith, e))
first_number U32 (a ∷ []) rest e = absurd (omega (arith, e))
first_number U32 (a ∷ b ∷ []) rest e = absurd (omega (arith, e))
first_number U32 (a ∷ b ∷ c ∷ []) rest e = absurd (omega (arith, e))
first_number U32 (a ∷ b ∷ c ∷ d ∷ value) rest e = refl

-- ---- names

name_by : (text value : List ℕ) (b : Bool) → is_name_text text ≡ b → name_said text ≡ Some value → is_name value ≡ true
unfolding name_said
name_by text value true e said =
    let whole : Some (name_of text) ≡ Some value = sym (rw e refl) ∙ said in
    let same : name_of text ≡ value = cc in
    ap is_name (sym same) ∙ is_name-name_of text e
name_by text value false e said = absurd (let none = rw e at said in cc)

named_meaning : (text value : List ℕ) → name_said text ≡ Some value → name_of_bytes value ≡ Some value
named_meaning text value said = rw (name_by text value (is_name_text text) refl said) refl

-- ---- expressions

small_by : (words : List Choice) (part : List ℕ) (s : ℕ) → choice_said 65535 words part ≡ Some s → value_said None (Number U16 (spellings.Choice (choices_at words))) part ≡ Some (be16_bytes s)
unfolding value_said
small_by words part s e = ap (option_map be16_bytes) e

-- a step is the number that its two bytes say
abbrev IsTwo : ℕ → Type 0
IsTwo s = be16_at (be16_bytes s) 0 ≡ s

step_two : (words : List Choice) (part : List ℕ) (s : ℕ) → choice_said 65535 words part ≡ Some s → IsTwo s
step_two words part s e =
    let is = said_number None U16 (spellings.Choice (choices_at words)) part (be16_bytes s) (small_by words part s e) in
    let other : choice_said 65535 words part ≡ Some (be16_at (be16_bytes s) 0) = is.number in
    let same : (let x : Option ℕ = Some (be16_at (be16_bytes s) 0) in x) ≡ Some s = sym other ∙ e in
    cc

some_cons : (n : ℕ) (o : Option (List ℕ)) (steps : List ℕ) → option_map (λ rest. n ∷ rest) o ≡ Some steps → (rest : List ℕ) × (o ≡ Some rest) × (n ∷ rest ≡ steps)
some_cons n None steps e = absurd (cc)
some_cons n (Some rest) steps e = (rest, refl, cc)

and_then_cons : (o : Option ℕ) (said : Option (List ℕ)) (steps : List ℕ) → option_and_then (λ n. option_map (λ rest. n ∷ rest) said) o ≡ Some steps → (n : ℕ) × (rest : List ℕ) × (o ≡ Some n) × (said ≡ Some rest) × (n ∷ rest ≡ steps)
and_then_cons None said steps e = absurd (cc)
and_then_cons (Some n) said steps e = let more = some_cons n said steps e in (n, more.0, refl, more.1, more.2)

steps_two : (words : List Choice) (ps : List (List ℕ)) (steps : List ℕ) → steps_said words ps ≡ Some steps → AllByRecursion IsTwo steps
unfolding steps_said
steps_two words [] steps e = let same : [] ≡ steps = cc in rw (← same) tt
steps_two words (part ∷ more) steps e =
    let is = and_then_cons (choice_said 65535 words part) (steps_said words more) steps e in
    rw (← is.4) (step_two words part is.0 is.2, steps_two words more is.1 is.3)

zeros_steps : (n m : ℕ) (rest : List ℕ) → m ≡ 2 * n → steps_at n (replicate m 0 ++ rest) ≡ replicate n 0
unfolding steps_at be16_at
zeros_steps zero m rest e = refl
zeros_steps (suc n) m rest e =
    let two : m ≡ suc (suc (2 * n)) = omega arith in
    rw two (ap (λ (xs : List ℕ). 0 ∷ xs) (zeros_steps n (2 * n) rest refl))

-- the steps that stand in bytes, with zeros up to n places
steps_there : (n : ℕ) (steps : List ℕ) (m : ℕ) (rest : List ℕ) → AllByRecursion IsTwo steps → length steps ≤ n → m ≡ 2 * (n - length steps) → steps_at n ((flat_map be16_bytes steps ++ replicate m 0) ++ rest) ≡ steps ++ replicate (n - length steps) 0
unfolding steps_at be16_at be16_bytes
steps_there n [] m rest all room e = let same : n - 0 ≡ n = omega arith in rw same (zeros_steps n m rest (omega arith))
steps_there zero (s ∷ steps) m rest all room e = absurd (omega (arith, room))
steps_there (suc n) (s ∷ steps) m rest all room e =
    let left : suc n - length (s ∷ steps) ≡ n - length steps = omega arith in
    let later = steps_there n steps m rest all.1 (omega (arith, room)) (omega (arith, e)) in
    rw (left, all.0) (ap (λ (xs : List ℕ). s ∷ xs) later)

count_two : (n : ℕ) → n ≤ 16 → IsTwo n
unfolding be16_at be16_bytes
count_two n room = omega arith

expression_by : (steps value rest : List ℕ) (b : Bool) → nat_le (length steps) 16 ≡ b → AllByRecursion IsTwo steps → expression_of steps ≡ Some value → Steps (be16_at (value ++ rest) 0) (steps_at 16 (drop 2 (value ++ rest))) ≡ expression_meant steps
unfolding be16_at be16_bytes
expression_by steps value rest true e all said =
    let few : length steps ≤ 16 = grind (arith, nat_tests) in
    let bytes = be16_bytes (length steps) ++ (flat_map be16_bytes steps ++ replicate (32 - 2 * length steps) 0) in
    let whole : Some bytes ≡ Some value = sym (rw e refl) ∙ said in
    let same : bytes ≡ value = cc in
    let there = steps_there 16 steps (32 - 2 * length steps) rest all few (omega arith) in
    rw (← same, count_two (length steps) few, there) refl
expression_by steps value rest false e all said = absurd (let none = rw e at said in cc)

then_expression : (o : Option (List ℕ)) (value : List ℕ) → option_and_then expression_of o ≡ Some value → (steps : List ℕ) × (o ≡ Some steps) × (expression_of steps ≡ Some value)
then_expression None value e = absurd (cc)
then_expression (Some steps) value e = (steps, refl, e)

expression_text : (words : List Choice) (text value : List ℕ) → expression_said words text ≡ Some value → (steps : List ℕ) × (steps_said words (parts text) ≡ Some steps) × (expression_of steps ≡ Some value)
unfolding expression_said
expression_text words text value e = then_expression (steps_said words (parts text)) value e

-- ---- one field

by_value : (reason : Reason) (o : Option (List ℕ)) (value : List ℕ) → value_or reason o ≡ Ok value → o ≡ Some value
by_value reason None value e = absurd (cc)
by_value reason (Some bytes) value e = cc

keyed_text : (epoch : Option ℕ) (kind : Kind) (o : Option (List ℕ)) (value : List ℕ) → keyed_said epoch kind o ≡ Ok value → (text : List ℕ) × (o ≡ Some text) × (value_said epoch kind text ≡ Some value)
keyed_text epoch kind None value e = absurd (cc)
keyed_text epoch kind (Some text) value e = (text, refl, by_value (reason_of kind) (value_said epoch kind text) value e)

pub field_text : (epoch : Option ℕ) (key : List ℕ) (kind : Kind) (word value : List ℕ) → field_said epoch key kind word ≡ Ok value → (text : List ℕ) × (behind_key key word ≡ Some text) × (value_said epoch kind text ≡ Some value)
unfolding field_said
field_text epoch key kind word value e = keyed_text epoch kind (behind_key key word) value e

is_said_name : (epoch : Option ℕ) (text value : List ℕ) → value_said epoch Name text ≡ Some value → name_said text ≡ Some value
unfolding value_said
is_said_name epoch text value e = e

is_said_expression : (epoch : Option ℕ) (words : Bor (List Choice)) (text value : List ℕ) → value_said epoch (Expression words) text ≡ Some value → expression_said words.now text ≡ Some value
unfolding value_said
is_said_expression epoch words text value e = e

number_meaning : (epoch : Option ℕ) (w : Width) (s : Spelling) (text value rest : List ℕ) → value_said epoch (Number w s) text ≡ Some value → text_meaning epoch (Number w s) text ≡ Some (Amount (number_at w (value ++ rest)))
number_meaning epoch w s text value rest e =
    let is = said_number epoch w s text value e in
    rw (first_number w value rest is.size) (ap (option_map Amount) is.number)

called_meaning : (epoch : Option ℕ) (text value rest : List ℕ) → length value ≡ 20 → value_said epoch Name text ≡ Some value → text_meaning epoch Name text ≡ Some (Called (name_of_bytes (take 20 (value ++ rest))))
called_meaning epoch text value rest long e =
    let said = is_said_name epoch text value e in
    rw (take_at value rest 20 long, named_meaning text value said) (ap (option_map (λ name. Called (Some name))) said)

steps_meaning : (epoch : Option ℕ) (words : Bor (List Choice)) (text value rest : List ℕ) → value_said epoch (Expression words) text ≡ Some value → text_meaning epoch (Expression words) text ≡ Some (Steps (be16_at (value ++ rest) 0) (steps_at 16 (drop 2 (value ++ rest))))
steps_meaning epoch words text value rest e =
    let is = expression_text words.now text value (is_said_expression epoch words text value e) in
    ap (option_map expression_meant) is.1 ∙ ap Some (sym (expression_by is.0 value rest (nat_le (length is.0) 16) refl (steps_two words.now (parts text) is.0 is.1) is.2))

-- a word, and those behind it
value_step : (epoch : Option ℕ) (key : List ℕ) (kind : Kind) (word value rest : List ℕ) (behind : Option (List Keyed)) (fs : List Field) → field_said epoch key kind word ≡ Ok value → behind ≡ Some (meanings_in fs rest) → word_meanings epoch key kind word behind ≡ Some (kind_meanings key kind (value ++ rest) (meanings_in fs (drop (width kind (value ++ rest)) (value ++ rest))))
value_step epoch key (Number w s) word value rest behind fs said more =
    let is = field_text epoch key (Number w s) word value said in
    let long = (said_number epoch w s is.0 value is.2).size in
    rw (is.1, more, number_meaning epoch w s is.0 value rest is.2, drop_at value rest (bytes_of w) long) refl
value_step epoch key Name word value rest behind fs said more =
    let is = field_text epoch key Name word value said in
    let long = field_size epoch key Name word value 20 refl said in
    rw (is.1, more, called_meaning epoch is.0 value rest long is.2, drop_at value rest 20 long) refl
value_step epoch key Block word value rest behind fs said more = refl
value_step epoch key (Expression words) word value rest behind fs said more =
    let is = field_text epoch key (Expression words) word value said in
    let long = field_size epoch key (Expression words) word value 34 refl said in
    rw (is.1, more, steps_meaning epoch words is.0 value rest is.2, drop_at value rest 34 long) refl

-- ---- all fields

front_parts : (front bytes : List ℕ) (said : Result (List ℕ) RowFault) → with_front front said ≡ Ok bytes → (rest : List ℕ) × (said ≡ Ok rest) × (front ++ rest ≡ bytes)
front_parts front bytes (Ok rest) e = (rest, refl, cc)
front_parts front bytes (Err fault) e = absurd (cc)

two_size : (n : ℕ) → length (be16_bytes n) ≡ 2
unfolding be16_bytes
two_size n = refl

-- bytes in front that mean nothing
past_front : (front rest bytes : List ℕ) (size : ℕ) (fs : List Field) → length front ≡ size → front ++ rest ≡ bytes → Some (meanings_in fs rest) ≡ Some (meanings_in fs (drop size bytes))
past_front front rest bytes size fs long e = rw (← e, drop_at front rest size long) refl

-- what the words of a row mean stands in its bytes
pub row_meanings : (epoch : Option ℕ) (n : ℕ) (fs : List Field) (ws : List (List ℕ)) (bytes : List ℕ) → row_said epoch n fs ws ≡ Ok bytes → meanings_said epoch fs ws ≡ Some (meanings_in fs bytes)
unfolding row_said meanings_said meanings_in
row_meanings epoch n [] ws bytes e = refl
row_meanings epoch n (Value key kind ∷ fs) [] bytes e = absurd (cc)
row_meanings epoch n (Value key kind ∷ fs) (w ∷ ws) bytes e =
    let parts = then_parts n bytes (field_said epoch key.now kind w) (row_said epoch (n + 1) fs ws) e in
    rw (← parts.4) (value_step epoch key.now kind w parts.0 parts.1 (meanings_said epoch fs ws) fs parts.2 (row_meanings epoch (n + 1) fs ws parts.1 parts.3))
row_meanings epoch n (Zeros count ∷ fs) [] bytes e =
    let parts = front_parts (replicate count 0) bytes (row_said epoch n fs []) e in
    row_meanings epoch n fs [] parts.0 parts.1 ∙ past_front (replicate count 0) parts.0 bytes count fs (length-replicate count 0) parts.2
row_meanings epoch n (Zeros count ∷ fs) (w ∷ ws) bytes e =
    let parts = front_parts (replicate count 0) bytes (row_said epoch n fs (w ∷ ws)) e in
    row_meanings epoch n fs (w ∷ ws) parts.0 parts.1 ∙ past_front (replicate count 0) parts.0 bytes count fs (length-replicate count 0) parts.2
row_meanings epoch n (Check ∷ fs) [] bytes e =
    let parts = check_parts bytes (row_said epoch n fs []) e in
    row_meanings epoch n fs [] parts.0 parts.1 ∙ past_front (be16_bytes (crc_of 0 parts.0)) parts.0 bytes 2 fs (two_size (crc_of 0 parts.0)) parts.2
row_meanings epoch n (Check ∷ fs) (w ∷ ws) bytes e =
    let parts = check_parts bytes (row_said epoch n fs (w ∷ ws)) e in
    row_meanings epoch n fs (w ∷ ws) parts.0 parts.1 ∙ past_front (be16_bytes (crc_of 0 parts.0)) parts.0 bytes 2 fs (two_size (crc_of 0 parts.0)) parts.2
