-- Lemmas on what values and rows say: numbers within their widths, and as many bytes as the fields have.
use Rattle.std.proofs.Common.{◌≡◌, ℕ, suc, ◌+◌, ◌*◌, ◌-◌, ◌<◌, ◌≤◌, ◌^◌, Bool, true, false, List, [], ◌∷◌, ◌++◌, length, refl, sym, ◌∙◌, ap, arith, Option, Some, None, length-append, lit<}
use Rattle.std.specs.Prelude.{◌==◌, if◌then◌else◌, nat_lt, nat_le, replicate, option_map, option_and_then, Result, Ok, Err, codes}
use Rattle.std.specs.List.{flat_map}
use Rattle.std.specs.Str.{bytes_eq}
use Rattle.std.proofs.Math.Nat.{pow-suc, pow-le-pow_right}
use Rattle.std.proofs.lemmas.Bool.Decides.{nat_tests}
use Rattle.std.proofs.lemmas.List.{length-replicate}
use Rattle.packet_forms.specs.Crc.{crc_of}
use Rattle.packet_forms.specs.Names.{is_name_text, name_of}
use Rattle.packet_forms.specs.Numbers.{be16_at, be32_at, be16_bytes, be32_bytes}
use Rattle.packet_forms.proofs.NameForms.{short_text}
use Rattle.row_forms.specs.declared.field.Choice.{Choice}
use Rattle.row_forms.specs.declared.field.Field.{Field}
use Rattle.row_forms.specs.declared.field.Field.TheVariants.{Value, Zeros, Check}
use Rattle.row_forms.specs.declared.field.Kind.{Kind}
use Rattle.row_forms.specs.declared.field.Kind.TheVariants.{Number, Name, Block, Expression}
use Rattle.row_forms.specs.declared.field.Spelling.{Spelling}
use Rattle.row_forms.specs.declared.field.Spelling.TheVariants as spellings
use Rattle.row_forms.specs.declared.field.Width.{Width}
use Rattle.row_forms.specs.declared.field.Width.TheVariants.{U8, U16, U32}
use Rattle.row_forms.specs.declared.fault.Reason.{Reason}
use Rattle.row_forms.specs.declared.fault.RowFault.{RowFault}
use Rattle.row_forms.specs.Words.{number, any_number, at_most, name_said}
use Rattle.row_forms.specs.Lists.{parts}
use Rattle.row_forms.specs.Numbers.{bytes_of, most_of, number_bytes, number_at, choice_said, bit_said, bits_said, mask_said, span_said, behind_epoch, time_said, number_said}
use Rattle.row_forms.specs.Values.{value_said, fixed_size, steps_said, expression_of, expression_said, reason_of, IsSaidNumber}
use Rattle.row_forms.specs.Rows.{with_front, with_check, behind_key, value_or, keyed_said, field_said, then_said, row_said, row_size, plus_size}

at_most_is : (most m n : ℕ) → at_most most m ≡ Some n → n ≤ most
at_most_is most m n e = by (nat_le m most) refl e where
  by : (b : Bool) → nat_le m most ≡ b → (if b then Some m else None) ≡ Some n → n ≤ most
  by true t e = let same : m ≡ n = cc in rw (← same) (grind (arith, nat_tests))
  by false t e = absurd (cc)

any_within : (most n : ℕ) (o : Option ℕ) → option_and_then (at_most most) o ≡ Some n → n ≤ most
any_within most n None e = absurd (cc)
any_within most n (Some m) e = at_most_is most m n e

number_within : (most n : ℕ) (text : List ℕ) → number most text ≡ Some n → n ≤ most
unfolding number
number_within most n text e = any_within most n (any_number text) e

choice_within : (most n : ℕ) (cs : List Choice) (text : List ℕ) → choice_said most cs text ≡ Some n → n ≤ most
unfolding choice_said
choice_within most n [] text e = number_within most n text e
choice_within most n (c ∷ cs) text e = by (bytes_eq c.text.now text) e (choice_within most n cs text) where
  by : (b : Bool) → (if b then at_most most c.number else choice_said most cs text) ≡ Some n → (choice_said most cs text ≡ Some n → n ≤ most) → n ≤ most
  by true e behind = at_most_is most c.number n e
  by false e behind = behind e

bit_within_by : (bits last bit : ℕ) (o : Option ℕ) → ((m : ℕ) → o ≡ Some m → m ≤ bits) → option_and_then (λ bit. if nat_lt last bit then Some bit else None) o ≡ Some bit → (last < bit) × (bit ≤ bits)
bit_within_by bits last bit None h e = absurd (cc)
bit_within_by bits last bit (Some m) h e = by (nat_lt last m) refl e where
  by : (b : Bool) → nat_lt last m ≡ b → (if b then Some m else None) ≡ Some bit → (last < bit) × (bit ≤ bits)
  by true t e = let same : m ≡ bit = cc in rw (← same) (grind (arith, nat_tests), h m refl)
  by false t e = absurd (cc)

bit_within : (bits last bit : ℕ) (text : List ℕ) → bit_said bits last text ≡ Some bit → (last < bit) × (bit ≤ bits)
bit_within bits last bit text e = bit_within_by bits last bit (number bits text) (λ m f. number_within bits m text f) e

more_by : (bits last bit n : ℕ) (o : Option ℕ) → last < bit → bit ≤ bits → ((m : ℕ) → o ≡ Some m → m + 2 ^ bit ≤ 2 ^ bits) → option_map (λ rest. 2 ^ (bit - 1) + rest) o ≡ Some n → n + 2 ^ last ≤ 2 ^ bits
more_by bits last bit n None above within h e = absurd (cc)
more_by bits last bit n (Some m) above within h e =
    let same : 2 ^ (bit - 1) + m ≡ n = cc in
    let low : 2 ^ last ≤ 2 ^ (bit - 1) = pow-le-pow_right {n = 2} (lit< tt) {i = last} {j = bit - 1} (omega arith) in
    let shape : bit ≡ suc (bit - 1) = omega arith in
    let twice : 2 ^ bit ≡ 2 * 2 ^ (bit - 1) = ap (λ (k : ℕ). 2 ^ k) shape ∙ pow-suc 2 (bit - 1) ∙ omega arith in
    let behind = h m refl in
    omega (arith, same, low, twice, behind)

bits_by : (bits last n : ℕ) (o : Option ℕ) (said : ℕ → Option ℕ) → ((bit : ℕ) → o ≡ Some bit → (last < bit) × (bit ≤ bits)) → ((bit m : ℕ) → bit ≤ bits → said bit ≡ Some m → m + 2 ^ bit ≤ 2 ^ bits) → option_and_then (λ bit. option_map (λ rest. 2 ^ (bit - 1) + rest) (said bit)) o ≡ Some n → n + 2 ^ last ≤ 2 ^ bits
bits_by bits last n None said h k e = absurd (cc)
bits_by bits last n (Some bit) said h k e = let is = h bit refl in more_by bits last bit n (said bit) is.0 is.1 (λ m f. k bit m is.1 f) e

bits_within : (bits last n : ℕ) (ps : List (List ℕ)) → last ≤ bits → bits_said bits last ps ≡ Some n → n + 2 ^ last ≤ 2 ^ bits
unfolding bits_said
bits_within bits last n [] low e =
    let none : 0 ≡ n = cc in
    let power : 2 ^ last ≤ 2 ^ bits = pow-le-pow_right {n = 2} (lit< tt) {i = last} {j = bits} low in
    omega (arith, none, power)
bits_within bits last n (text ∷ more) low e = bits_by bits last n (bit_said bits last text) (λ bit. bits_said bits bit more) (λ bit f. bit_within bits last bit text f) (λ bit m within f. bits_within bits bit m more within f) e

mask_within : (bits n : ℕ) (text : List ℕ) → mask_said bits text ≡ Some n → n < 2 ^ bits
unfolding mask_said
mask_within bits n text e = by (bytes_eq text (codes "none")) e where
  by : (b : Bool) → (if b then Some 0 else bits_said bits 0 (parts text)) ≡ Some n → n < 2 ^ bits
  by true e =
      let none : 0 ≡ n = cc in
      let power : 2 ^ 0 ≤ 2 ^ bits = pow-le-pow_right {n = 2} (lit< tt) {i = 0} {j = bits} (omega arith) in
      omega (arith, none, power)
  by false e = let h = bits_within bits 0 n (parts text) (omega arith) e in omega (arith, h)

epoch_within : (most n : ℕ) (epoch span : Option ℕ) → behind_epoch most epoch span ≡ Some n → n ≤ most
epoch_within most n None span e = absurd (cc)
epoch_within most n (Some epoch) None e = absurd (cc)
epoch_within most n (Some epoch) (Some span) e = at_most_is most (epoch + span) n e

time_within : (epoch : Option ℕ) (most n : ℕ) (text : List ℕ) → time_said epoch most text ≡ Some n → n ≤ most
unfolding time_said
time_within epoch most n [] e = number_within most n [] e
time_within epoch most n (c ∷ cs) e = by (c == 43) e where
  by : (b : Bool) → (if b then behind_epoch most epoch (span_said cs) else number most (c ∷ cs)) ≡ Some n → n ≤ most
  by true e = epoch_within most n epoch (span_said cs) e
  by false e = number_within most n (c ∷ cs) e

mask_room : (w : Width) (n : ℕ) → n < 2 ^ (8 * bytes_of w) → n ≤ most_of w
mask_room U8 n h = omega (arith, h)
mask_room U16 n h = omega (arith, h)
mask_room U32 n h = omega (arith, h)

spelling_within : (epoch : Option ℕ) (w : Width) (s : Spelling) (text : List ℕ) (n : ℕ) → number_said epoch w s text ≡ Some n → n ≤ most_of w
spelling_within epoch w spellings.Decimal text n e = number_within (most_of w) n text e
spelling_within epoch w spellings.Hex text n e = number_within (most_of w) n text e
spelling_within epoch w (spellings.Choice choices) text n e = choice_within (most_of w) n choices.now text e
spelling_within epoch w spellings.Mask text n e = mask_room w n (mask_within (8 * bytes_of w) n text e)
spelling_within epoch w spellings.Time text n e = time_within epoch (most_of w) n text e

bytes_are : (w : Width) (n : ℕ) → n ≤ most_of w → (number_at w (number_bytes w n) ≡ n) × (length (number_bytes w n) ≡ bytes_of w)
unfolding be16_at be32_at be16_bytes be32_bytes
bytes_are U8 n h = (omega (arith, h), refl)
bytes_are U16 n h = (omega (arith, h), refl)
bytes_are U32 n h = (omega (arith, h), refl)

said_by : (epoch : Option ℕ) (w : Width) (s : Spelling) (text bytes : List ℕ) (o : Option ℕ) → number_said epoch w s text ≡ o → option_map (number_bytes w) o ≡ Some bytes → IsSaidNumber epoch w s text bytes
said_by epoch w s text bytes None is e = absurd (cc)
said_by epoch w s text bytes (Some n) is e =
    let within = spelling_within epoch w s text n is in
    let same : number_bytes w n ≡ bytes = cc in
    let back = bytes_are w n within in
    let at : n ≡ number_at w bytes = sym back.0 ∙ ap (number_at w) same in
    record { number = is ∙ ap Some at; within = rw (← at) within; size = rw (← same) back.1 }

-- the bytes of a number's text are that number
pub said_number : (epoch : Option ℕ) (w : Width) (s : Spelling) (text bytes : List ℕ) → value_said epoch (Number w s) text ≡ Some bytes → IsSaidNumber epoch w s text bytes
unfolding value_said
said_number epoch w s text bytes e = said_by epoch w s text bytes (number_said epoch w s text) refl e

-- ---- sizes

name_size : (text bytes : List ℕ) → name_said text ≡ Some bytes → length bytes ≡ 20
unfolding name_said name_of
name_size text bytes e = by (is_name_text text) refl e where
  by : (b : Bool) → is_name_text text ≡ b → (if b then Some (text ++ replicate (20 - length text) 0) else None) ≡ Some bytes → length bytes ≡ 20
  by true t e =
      let same : text ++ replicate (20 - length text) 0 ≡ bytes = cc in
      let short = short_text text t in
      rw (← same) (simp (length-append, length-replicate) (omega (arith, short)))
  by false t e = absurd (cc)

steps_size : (steps : List ℕ) → length (flat_map be16_bytes steps) ≡ 2 * length steps
unfolding be16_bytes
steps_size [] = refl
steps_size (n ∷ steps) = let rest = steps_size steps in omega (arith, rest)

two_size : (n : ℕ) → length (be16_bytes n) ≡ 2
unfolding be16_bytes
two_size n = refl

expression_by : (steps bytes : List ℕ) → expression_of steps ≡ Some bytes → length bytes ≡ 34
expression_by steps bytes e = by (nat_le (length steps) 16) refl e where
  by : (b : Bool) → nat_le (length steps) 16 ≡ b → (if b then Some (be16_bytes (length steps) ++ (flat_map be16_bytes steps ++ replicate (32 - 2 * length steps) 0)) else None) ≡ Some bytes → length bytes ≡ 34
  by true t e =
      let few : length steps ≤ 16 = grind (arith, nat_tests) in
      let same : be16_bytes (length steps) ++ (flat_map be16_bytes steps ++ replicate (32 - 2 * length steps) 0) ≡ bytes = cc in
      rw (← same) (simp (length-append, length-replicate, steps_size, two_size) (omega (arith, few)))
  by false t e = absurd (cc)

expression_size : (bytes : List ℕ) (o : Option (List ℕ)) → option_and_then expression_of o ≡ Some bytes → length bytes ≡ 34
expression_size bytes None e = absurd (cc)
expression_size bytes (Some steps) e = expression_by steps bytes e

some_same : (m n : ℕ) → (let x : Option ℕ = Some m in x) ≡ Some n → m ≡ n
some_same m n e = cc

value_size : (epoch : Option ℕ) (kind : Kind) (text bytes : List ℕ) (size : ℕ) → fixed_size kind ≡ Some size → value_said epoch kind text ≡ Some bytes → length bytes ≡ size
unfolding value_said expression_said
value_size epoch (Number w s) text bytes size f e = (said_number epoch w s text bytes e).size ∙ some_same _ _ f
value_size epoch Name text bytes size f e = name_size text bytes e ∙ some_same _ _ f
value_size epoch Block text bytes size f e = absurd (cc)
value_size epoch (Expression words) text bytes size f e = expression_size bytes (steps_said words.now (parts text)) e ∙ some_same _ _ f

or_size : (reason : Reason) (o : Option (List ℕ)) (bytes : List ℕ) → value_or reason o ≡ Ok bytes → o ≡ Some bytes
or_size reason None bytes e = absurd (cc)
or_size reason (Some other) bytes e = cc

keyed_size : (epoch : Option ℕ) (kind : Kind) (o : Option (List ℕ)) (bytes : List ℕ) (size : ℕ) → fixed_size kind ≡ Some size → keyed_said epoch kind o ≡ Ok bytes → length bytes ≡ size
keyed_size epoch kind None bytes size f e = absurd (cc)
keyed_size epoch kind (Some text) bytes size f e = value_size epoch kind text bytes size f (or_size (reason_of kind) (value_said epoch kind text) bytes e)

pub field_size : (epoch : Option ℕ) (key : List ℕ) (kind : Kind) (word bytes : List ℕ) (size : ℕ) → fixed_size kind ≡ Some size → field_said epoch key kind word ≡ Ok bytes → length bytes ≡ size
unfolding field_said
field_size epoch key kind word bytes size f e = keyed_size epoch kind (behind_key key word) bytes size f e

front_size : (front bytes : List ℕ) (said : Result (List ℕ) RowFault) (m k size : ℕ) → length front ≡ m → ((rest : List ℕ) → said ≡ Ok rest → length rest ≡ k) → m + k ≡ size → with_front front said ≡ Ok bytes → length bytes ≡ size
front_size front bytes (Ok rest) m k size f h s e = let same : front ++ rest ≡ bytes = cc in rw (← same) (simp length-append (omega (arith, f, h rest refl, s)))
front_size front bytes (Err fault) m k size f h s e = absurd (cc)

check_size : (bytes : List ℕ) (said : Result (List ℕ) RowFault) (k size : ℕ) → ((rest : List ℕ) → said ≡ Ok rest → length rest ≡ k) → 2 + k ≡ size → with_check said ≡ Ok bytes → length bytes ≡ size
check_size bytes (Ok rest) k size h s e = let same : be16_bytes (crc_of 0 rest) ++ rest ≡ bytes = cc in rw (← same) (simp (length-append, two_size) (omega (arith, h rest refl, s)))
check_size bytes (Err fault) k size h s e = absurd (cc)

then_size : (n : ℕ) (bytes : List ℕ) (first : Result (List ℕ) Reason) (said : Result (List ℕ) RowFault) (m k size : ℕ) → ((value : List ℕ) → first ≡ Ok value → length value ≡ m) → ((rest : List ℕ) → said ≡ Ok rest → length rest ≡ k) → m + k ≡ size → then_said n first said ≡ Ok bytes → length bytes ≡ size
then_size n bytes (Ok value) said m k size f h s e = front_size value bytes said m k size (f value refl) h s e
then_size n bytes (Err reason) said m k size f h s e = absurd (cc)

-- two sizes that have a sum
sizes_of : (a b : Option ℕ) (size : ℕ) → plus_size a b ≡ Some size → (m : ℕ) × (k : ℕ) × (a ≡ Some m) × (b ≡ Some k) × (m + k ≡ size)
sizes_of None b size e = absurd (cc)
sizes_of (Some m) None size e = absurd (cc)
sizes_of (Some m) (Some k) size e = (m, k, refl, refl, cc)

-- a row without a block says as many bytes as its fields have
pub row_sizes : (epoch : Option ℕ) (n size : ℕ) (fs : List Field) (ws : List (List ℕ)) (bytes : List ℕ) → row_size fs ≡ Some size → row_said epoch n fs ws ≡ Ok bytes → length bytes ≡ size
unfolding row_said row_size
row_sizes epoch n size [] [] bytes f e = let same : [] ≡ bytes = cc in rw (← same) (some_same _ _ f)
row_sizes epoch n size [] (w ∷ ws) bytes f e = absurd (cc)
row_sizes epoch n size (Value key kind ∷ fs) [] bytes f e = absurd (cc)
row_sizes epoch n size (Value key kind ∷ fs) (w ∷ ws) bytes f e =
    let s = sizes_of (fixed_size kind) (row_size fs) size f in
    then_size n bytes (field_said epoch key.now kind w) (row_said epoch (n + 1) fs ws) s.0 s.1 size (λ value g. field_size epoch key.now kind w value s.0 s.2 g) (λ rest g. row_sizes epoch (n + 1) s.1 fs ws rest s.3 g) s.4 e
row_sizes epoch n size (Zeros count ∷ fs) [] bytes f e =
    let s = sizes_of (Some count) (row_size fs) size f in
    front_size (replicate count 0) bytes (row_said epoch n fs []) s.0 s.1 size (length-replicate count 0 ∙ some_same _ _ s.2) (λ rest g. row_sizes epoch n s.1 fs [] rest s.3 g) s.4 e
row_sizes epoch n size (Zeros count ∷ fs) (w ∷ ws) bytes f e =
    let s = sizes_of (Some count) (row_size fs) size f in
    front_size (replicate count 0) bytes (row_said epoch n fs (w ∷ ws)) s.0 s.1 size (length-replicate count 0 ∙ some_same _ _ s.2) (λ rest g. row_sizes epoch n s.1 fs (w ∷ ws) rest s.3 g) s.4 e
row_sizes epoch n size (Check ∷ fs) [] bytes f e =
    let s = sizes_of (Some 2) (row_size fs) size f in
    let two : 2 ≡ s.0 = some_same _ _ s.2 in
    check_size bytes (row_said epoch n fs []) s.1 size (λ rest g. row_sizes epoch n s.1 fs [] rest s.3 g) (omega (arith, two, s.4)) e
row_sizes epoch n size (Check ∷ fs) (w ∷ ws) bytes f e =
    let s = sizes_of (Some 2) (row_size fs) size f in
    let two : 2 ≡ s.0 = some_same _ _ s.2 in
    check_size bytes (row_said epoch n fs (w ∷ ws)) s.1 size (λ rest g. row_sizes epoch n s.1 fs (w ∷ ws) rest s.3 g) (omega (arith, two, s.4)) e
