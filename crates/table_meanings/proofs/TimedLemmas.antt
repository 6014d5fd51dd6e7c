-- Lemmas on one command of a sequence, absolute or relative.
use Rattle.std.proofs.Common.{◌≡◌, ℕ, zero, suc, ◌+◌, ◌<◌, ◌≤◌, true, false, List, [], ◌∷◌, ◌++◌, length, drop, get_or, Option, Some, None, refl, ap, sym, ◌∙◌, arith, append-nil, inl, inr, Bor}
use Rattle.std.specs.Prelude.{slice_index, option_map, Ok, replicate}
use Rattle.std.proofs.lemmas.Bool.{cases_Bool}
use Rattle.std.proofs.lemmas.List.{drop_at, length-replicate, get_or-replicate, get_or_append_left}
use Rattle.packet_forms.specs.Numbers.{be16_at, be32_at, be16_bytes, be32_bytes}
use Rattle.packet_forms.specs.Packets.{IsPacket, is_command, sequence_flags}
use Rattle.row_forms.specs.declared.field.Field.{Field}
use Rattle.row_forms.specs.declared.field.Field.TheVariants.{Value}
use Rattle.row_forms.specs.declared.field.Kind.TheVariants.{Number}
use Rattle.row_forms.specs.declared.field.Spelling.{Spelling}
use Rattle.row_forms.specs.declared.field.Width.{Width}
use Rattle.row_forms.specs.declared.field.Width.TheVariants.{U16, U32}
use Rattle.row_forms.specs.Numbers.{bytes_of, most_of, number_at, number_bytes, number_said}
use Rattle.row_forms.specs.Values.{value_said}
use Rattle.row_forms.specs.Rows.{field_said, row_said}
use Rattle.row_forms.proofs.RowNumberLemmas.{then_parts}
use Rattle.row_forms.proofs.SizeLemmas.{said_number}
use Rattle.sc_tables.specs.declared.absolute.Timed.{Timed}
use Rattle.sc_tables.specs.declared.relative.Relative.{Relative}
use Rattle.sc_tables.specs.Absolute.{is_used, timed_form, timed_reason}
use Rattle.sc_tables.specs.Relative.{relative_form, relative_reason}
use Rattle.sc_tables.specs.Grammar as grammar
use Rattle.sc_tables.specs.Spelling.{IsTimed, timed_spelled, relative_spelled}
use Rattle.sc_tables.proofs.Fronts.{command_kept, timed_front, timed_unused, relative_front}
use Rattle.sc_tables.proofs.Spelled.{end_is, IsTaken}
use Rattle.sc_tables.proofs.Spellings.{timed_spelling, relative_spelling}
use Rattle.sc_tables.proofs.Stored.{sound}
use Rattle.table_meanings.proofs.MeaningLemmas.{first_number, field_text}
use Rattle.table_meanings.proofs.CommandLemmas.{IsRead}

-- ---- numbers in front

-- bytes that are said are those of their number
some_is : (w : Width) (o : Option ℕ) (n : ℕ) (value : List ℕ) → o ≡ Some n → option_map (number_bytes w) o ≡ Some value → number_bytes w n ≡ value
some_is w None n value e said = absurd (cc)
some_is w (Some m) n value e said = let same : m ≡ n = cc in let all : number_bytes w m ≡ value = cc in ap (number_bytes w) (sym same) ∙ all

value_option : (epoch : Option ℕ) (w : Width) (s : Spelling) (text value : List ℕ) → value_said epoch (Number w s) text ≡ Some value → option_map (number_bytes w) (number_said epoch w s text) ≡ Some value
unfolding value_said
value_option epoch w s text value e = e

record IsFirst (w : Width) (fs : List Field) (said : List ℕ → Type 0) (bytes : List ℕ) : Type 0 where
  value : List ℕ
  rest : List ℕ
  back : number_bytes w (number_at w bytes) ≡ value
  within : number_at w bytes ≤ most_of w
  size : length value ≡ bytes_of w
  more : said rest
  all : value ++ rest ≡ bytes

first_is : (epoch : Option ℕ) (n : ℕ) (key : Bor (List ℕ)) (w : Width) (s : Spelling) (fs : List Field) (word : List ℕ) (ws : List (List ℕ)) (bytes : List ℕ) → row_said epoch n (Value key (Number w s) ∷ fs) (word ∷ ws) ≡ Ok bytes → IsFirst w fs (λ rest. row_said epoch (n + 1) fs ws ≡ Ok rest) bytes
unfolding row_said
first_is epoch n key w s fs word ws bytes e =
    let parts = then_parts n bytes (field_said epoch key.now (Number w s) word) (row_said epoch (n + 1) fs ws) e in
    let text = field_text epoch key.now (Number w s) word parts.0 parts.2 in
    let is = said_number epoch w s text.0 parts.0 text.2 in
    let same : number_at w bytes ≡ number_at w parts.0 = ap (number_at w) (sym parts.4) ∙ first_number w parts.0 parts.1 is.size in
    record {
      value = parts.0;
      rest = parts.1;
      back = ap (number_bytes w) same ∙ some_is w (number_said epoch w s text.0) (number_at w parts.0) parts.0 is.number (value_option epoch w s text.0 parts.0 text.2);
      within = rw same is.within;
      size = is.size;
      more = parts.3;
      all = parts.4;
    }

no_more : (epoch : Option ℕ) (n : ℕ) (ws : List (List ℕ)) (bytes : List ℕ) → row_said epoch n [] ws ≡ Ok bytes → [] ≡ bytes
unfolding row_said
no_more epoch n [] bytes e = cc
no_more epoch n (w ∷ ws) bytes e = absurd (cc)

-- fields of two and of four bytes
pub record IsTimedRow (front : List ℕ) : Type 0 where
  pub number : be16_at front 0 ≤ 65535
  pub tag : be32_at (drop 2 front) 0 ≤ 4294967295
  pub bytes_are : be16_bytes (be16_at front 0) ++ be32_bytes (be32_at (drop 2 front) 0) ≡ front

two_first : (value rest front : List ℕ) → length value ≡ 2 → value ++ rest ≡ front → drop 2 front ≡ rest
two_first value rest front long e = ap (drop 2) (sym e) ∙ drop_at value rest 2 long

never_missing : (epoch : Option ℕ) (n : ℕ) (key : Bor (List ℕ)) (s : Spelling) (rest : List ℕ) → row_said epoch n (Value key (Number U32 s) ∷ []) [] ≡ Ok rest → ⊥
unfolding row_said
never_missing epoch n key s rest e = cc

pub timed_row : (epoch : Option ℕ) (n : ℕ) (k1 k2 : Bor (List ℕ)) (s1 s2 : Spelling) (ws : List (List ℕ)) (front : List ℕ) → row_said epoch n (Value k1 (Number U16 s1) ∷ Value k2 (Number U32 s2) ∷ []) ws ≡ Ok front → IsTimedRow front
unfolding row_said
timed_row epoch n k1 k2 s1 s2 [] front e = absurd (cc)
timed_row epoch n k1 k2 s1 s2 (v ∷ []) front e =
    let first = first_is epoch n k1 U16 s1 (Value k2 (Number U32 s2) ∷ []) v [] front e in
    absurd (never_missing epoch (n + 1) k2 s2 first.rest first.more)
timed_row epoch n k1 k2 s1 s2 (v ∷ w ∷ ws) front e =
    let first = first_is epoch n k1 U16 s1 (Value k2 (Number U32 s2) ∷ []) v (w ∷ ws) front e in
    let second = first_is epoch (n + 1) k2 U32 s2 [] w ws first.rest first.more in
    let none = no_more epoch (n + 1 + 1) ws second.rest second.more in
    let left : drop 2 front ≡ first.rest = two_first first.value first.rest front first.size first.all in
    let same : be32_at (drop 2 front) 0 ≡ be32_at first.rest 0 = ap (λ (xs : List ℕ). be32_at xs 0) left in
    let whole : be32_bytes (be32_at first.rest 0) ≡ first.rest = second.back ∙ sym (append-nil second.value) ∙ ap (λ (xs : List ℕ). second.value ++ xs) none ∙ second.all in
    record {
      number = first.within;
      tag = rw same second.within;
      bytes_are = ap (λ (m : ℕ). be16_bytes (be16_at front 0) ++ be32_bytes m) same ∙ ap (λ (xs : List ℕ). be16_bytes (be16_at front 0) ++ xs) whole ∙ ap (λ (xs : List ℕ). xs ++ first.rest) first.back ∙ first.all;
    }

pub record IsRelativeRow (front : List ℕ) : Type 0 where
  pub tag : be16_at front 0 ≤ 65535
  pub bytes_are : be16_bytes (be16_at front 0) ≡ front

pub relative_row : (epoch : Option ℕ) (n : ℕ) (key : Bor (List ℕ)) (s : Spelling) (ws : List (List ℕ)) (front : List ℕ) → row_said epoch n (Value key (Number U16 s) ∷ []) ws ≡ Ok front → IsRelativeRow front
unfolding row_said
relative_row epoch n key s [] front e = absurd (cc)
relative_row epoch n key s (v ∷ ws) front e =
    let first = first_is epoch n key U16 s [] v ws front e in
    let none = no_more epoch (n + 1) ws first.rest first.more in
    record {
      tag = first.within;
      bytes_are = first.back ∙ sym (append-nil first.value) ∙ ap (λ (xs : List ℕ). first.value ++ xs) none ∙ first.all;
    }

-- ---- a command with bytes behind it

kept : (p rest : List ℕ) (i : ℕ) → i < length p → slice_index p i ≡ slice_index (p ++ rest) i
kept p rest i below = sym (get_or_append_left p rest 0 i below)

-- zeros have no packet
zeros_flags : (n : ℕ) (p : List ℕ) → 8 ≤ length p → p ≡ replicate n 0 → sequence_flags p ≡ 0
unfolding sequence_flags
zeros_flags n p long e =
    let many : length p ≡ n = ap length e ∙ length-replicate n 0 in
    let zero : slice_index p 2 ≡ 0 = ap (λ (xs : List ℕ). slice_index xs 2) e ∙ get_or-replicate n 2 0 0 (omega (arith, long, many)) in
    rw zero refl

later_zeros : (front p : List ℕ) (n : ℕ) → front ++ p ≡ replicate n 0 → (m : ℕ) × (p ≡ replicate m 0)
later_zeros [] p n e = (n, e)
later_zeros (b ∷ front) p zero e = absurd (cc)
later_zeros (b ∷ front) p (suc n) e = let same : front ++ p ≡ replicate n 0 = ap (drop 1) e in later_zeros front p n same

front_zeros : (p rest : List ℕ) (n : ℕ) → p ++ rest ≡ replicate n 0 → (m : ℕ) × (p ≡ replicate m 0)
front_zeros [] rest n e = (0, refl)
front_zeros (b ∷ p) rest zero e = absurd (cc)
front_zeros (b ∷ p) rest (suc n) e =
    let same : p ++ rest ≡ replicate n 0 = ap (drop 1) e in
    let more = front_zeros p rest n same in
    let first : b ≡ 0 = ap (λ (xs : List ℕ). get_or xs 0 0) e in
    (suc more.0, joined b p (replicate more.0 0) first more.1)
  where
    joined : (b : ℕ) (xs ys : List ℕ) → b ≡ 0 → xs ≡ ys → b ∷ xs ≡ 0 ∷ ys
    joined b xs ys h e = cc

-- bytes that have a packet somewhere aren't the end
packet_going : (front p rest bytes : List ℕ) → IsPacket p → front ++ (p ++ rest) ≡ bytes → grammar.is_end bytes ≡ false
packet_going front p rest bytes is e = elim (cases_Bool (grammar.is_end bytes)) [
  | inr going ↦ going
  | inl ended ↦ absurd (
      let all = end_is bytes ended in
      let behind = later_zeros front (p ++ rest) (length bytes) (e ∙ all) in
      let zeros = front_zeros p rest behind.0 behind.1 in
      let none : sequence_flags p ≡ 0 = zeros_flags zeros.0 p is.long zeros.1 in
      let three = is.whole in
      omega (arith, none, three))
]

timed_then : (c : Timed) (rest : List ℕ) → timed_spelled c ++ rest ≡ (be16_bytes c.number ++ be32_bytes c.tag) ++ (c.packet ++ rest)
unfolding timed_spelled be16_bytes be32_bytes
timed_then c rest = refl

timed_number : (c : Timed) (rest : List ℕ) → c.number ≤ 65535 → be16_at (timed_spelled c ++ rest) 0 ≡ c.number
unfolding timed_spelled be16_bytes be16_at
timed_number c rest small = omega (arith, small)

timed_behind : (c : Timed) (rest : List ℕ) → drop 6 (timed_spelled c ++ rest) ≡ c.packet ++ rest
unfolding timed_spelled be16_bytes be32_bytes
timed_behind c rest = refl

is_command_packet : (p rest : List ℕ) → IsPacket p → is_command (p ++ rest) ≡ true → is_command p ≡ true
is_command_packet p rest is e =
    let long = is.long in
    command_kept (p ++ rest) p (kept p rest 0 (omega (arith, long))) (kept p rest 1 (omega (arith, long))) ∙ e

pub timed_read : (c : Timed) → c.number ≤ 65535 → c.tag ≤ 4294967295 → IsPacket c.packet → IsRead timed_form timed_spelled c
timed_read c small time is = record {
  going = λ rest. packet_going (be16_bytes c.number ++ be32_bytes c.tag) c.packet rest (timed_spelled c ++ rest) is (sym (timed_then c rest));
  taken = λ done rest none. one done rest none;
} where
  one : (done : List Timed) (rest : List ℕ) → timed_reason done (timed_spelled c ++ rest) ≡ None → IsTaken timed_form timed_spelled done c rest
  one done rest none =
      let passes = sound (timed_reason done (timed_spelled c ++ rest)) none in
      let front = timed_front done (timed_spelled c ++ rest) passes in
      let number = timed_number c rest small in
      let least = front.least in
      let most = front.most in
      let behind = timed_behind c rest in
      let command : is_command (c.packet ++ rest) ≡ true = ap is_command (sym behind) ∙ front.front.command in
      let good : IsTimed c = record {
        least = omega (arith, number, least);
        most = omega (arith, number, most);
        time = omega (arith, time);
        packet = is;
        command = is_command_packet c.packet rest is command;
      } in
      let free : is_used c.number done ≡ false = ap (λ (n : ℕ). is_used n done) (sym number) ∙ timed_unused done (timed_spelled c ++ rest) passes in
      timed_spelling.takes done c rest (good, free)

relative_behind : (c : Relative) (rest : List ℕ) → drop 2 (relative_spelled c ++ rest) ≡ c.packet ++ rest
unfolding relative_spelled be16_bytes
relative_behind c rest = refl

relative_then : (c : Relative) (rest : List ℕ) → be16_bytes c.tag ++ (c.packet ++ rest) ≡ relative_spelled c ++ rest
unfolding relative_spelled be16_bytes
relative_then c rest = refl

pub relative_read : (c : Relative) → c.tag ≤ 65535 → IsPacket c.packet → IsRead relative_form relative_spelled c
relative_read c small is = record {
  going = λ rest. packet_going (be16_bytes c.tag) c.packet rest (relative_spelled c ++ rest) is (relative_then c rest);
  taken = λ done rest none. one done rest none;
} where
  one : (done : List Relative) (rest : List ℕ) → relative_reason (relative_spelled c ++ rest) ≡ None → IsTaken relative_form relative_spelled done c rest
  one done rest none =
      let front = relative_front (relative_spelled c ++ rest) (sound (relative_reason (relative_spelled c ++ rest)) none) in
      let command : is_command (c.packet ++ rest) ≡ true = ap is_command (sym (relative_behind c rest)) ∙ front.front.command in
      relative_spelling.takes done c rest (record { seconds = omega (arith, small); packet = is; command = is_command_packet c.packet rest is command })
