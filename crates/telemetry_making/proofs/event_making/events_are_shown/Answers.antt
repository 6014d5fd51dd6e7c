use Rattle.std.proofs.Common.{◌≡◌, ℕ, zero, suc, ◌+◌, ◌*◌, ◌/◌, ◌%◌, ◌<◌, ◌^◌, true, ◌&&◌, List, [], ◌∷◌, ◌++◌, length, take, drop, refl, ap, sym, subst, ◌∙◌, arith, append_assoc, length-append, Bor}
use Rattle.std.specs.Prelude.{codes, ◌==◌, nat_le}
use Rattle.std.specs.List.{AllByRecursion, list_all}
use Rattle.std.proofs.lemmas.Bool.Decides.{nat_tests}
use Rattle.packet_forms.specs.Built.{telemetry_of, event_payload, event_of, with_sequence}
use Rattle.packet_forms.specs.MessageIds.{event_id}
use Rattle.packet_forms.specs.Names.{is_name, is_name_text, name_text}
use Rattle.packet_forms.specs.Numbers.{be16_at, be32_at, be16_bytes, be32_bytes}
use Rattle.row_forms.specs.declared.field.Field.{Field}
use Rattle.row_forms.specs.declared.field.Field.TheVariants.{Value}
use Rattle.row_forms.specs.declared.field.Kind.TheVariants.{Name}
use Rattle.row_forms.specs.Numbers.{are_choices}
use Rattle.row_forms.specs.Rows.{is_row}
use Rattle.row_forms.specs.RowNumbers.{numbers_in}
use Rattle.row_forms.specs.Values.{can_show, is_kind}
use Rattle.row_forms.specs.Worked.{field, text_at}
use Rattle.row_forms.proofs.TextLemmas.{and_both, all_append}
use Rattle.telemetry.specs.Telemetry.{named}
use Rattle.telemetry.specs.Dictionary.{dictionary, hs_rows, mm_rows, md_rows, cs_rows, sc_rows, lc_rows, event_rows, row, count as counted, long_count, type_of, event_message_fields}
use Rattle.telemetry_making.specs.Making.{IsShownWith}
use Rattle.telemetry_making.proofs.MakingLemmas.{content_from, header_row, shown_with, whole16, whole32, bytes16, bytes32}
use Rattle.telemetry_making.proofs.event_making.events_are_shown.Goals as goal

front_of : (n : ℕ) (xs ys : List ℕ) → length xs ≡ n → take n (xs ++ ys) ≡ xs
front_of zero [] ys e = refl
front_of zero (x ∷ xs) ys e = absurd (omega (arith, e))
front_of (suc n) [] ys e = absurd (omega (arith, e))
front_of (suc n) (x ∷ xs) ys e = ap (λ (zs : List ℕ). x ∷ zs) (front_of n xs ys (omega (arith, e)))

rest_of : (n : ℕ) (xs ys : List ℕ) → length xs ≡ n → drop n (xs ++ ys) ≡ ys
rest_of zero [] ys e = refl
rest_of zero (x ∷ xs) ys e = absurd (omega (arith, e))
rest_of (suc n) [] ys e = absurd (omega (arith, e))
rest_of (suc n) (x ∷ xs) ys e = rest_of n xs ys (omega (arith, e))

name_long : (name : List ℕ) → is_name name ≡ true → length name ≡ 20
unfolding is_name
name_long name e =
    let x = and_both ((length name == 20) && is_name_text (name_text name)) (list_all (λ b. b == 0) (drop (length (name_text name)) name)) e in
    let y = and_both (length name == 20) (is_name_text (name_text name)) x.0 in
    let h = y.0 in
    grind (arith, nat_tests, h)

at_least : (n m : ℕ) → n ≡ 20 → nat_le 20 (n + m) ≡ true
at_least n m e = grind (arith, nat_tests)

name_row : (key : Bor (List ℕ)) (fs : List Field) (name rest : List ℕ) → is_name name ≡ true → is_row (Value key Name ∷ fs) (name ++ rest) ≡ is_row fs rest
unfolding is_row can_show
name_row key fs name rest e =
    let long = name_long name e in
    let enough : nat_le 20 (length (name ++ rest)) ≡ true = ap (nat_le 20) (length-append name rest) ∙ at_least (length name) (length rest) long in
    rw (enough, front_of 20 name rest long, rest_of 20 name rest long, e) refl

abbrev number_fields : List Field
number_fields = field (codes "event") counted ∷ field (codes "type") type_of ∷ field (codes "spacecraft") long_count ∷ field (codes "processor") long_count ∷ []

abbrev numbers_from : ℕ → ℕ → List ℕ
numbers_from number kind = be16_bytes number ++ (be16_bytes kind ++ (be32_bytes 66 ++ be32_bytes 1))

numbers_row : (number kind : ℕ) → is_row number_fields (numbers_from number kind) ≡ true
unfolding is_row can_show be16_bytes be32_bytes
numbers_row number kind = refl

event_numbers : (time n number kind : ℕ) (name : List ℕ) → length name ≡ 20 → time < 2 ^ 32 → n < 2 ^ 14 → number < 2 ^ 16 → kind < 2 ^ 16 → numbers_in event_message_fields (content_from time n (name ++ numbers_from number kind)) ≡ time ∷ n ∷ number ∷ kind ∷ 66 ∷ 1 ∷ []
unfolding numbers_in be16_at be32_at be16_bytes be32_bytes
event_numbers time n number kind name long within few low typed =
    ap (λ (xs : List ℕ). (time / 16777216 % 256 * 16777216 + time / 65536 % 256 * 65536 + time / 256 % 256 * 256 + time % 256) ∷ (n / 256 % 256 * 256 + n % 256) ∷ numbers_in number_fields xs) (rest_of 20 name (numbers_from number kind) long)
    ∙ rw (whole32 time within, whole16 n (omega (arith, few)), whole16 number (omega (arith, low)), whole16 kind (omega (arith, typed))) refl

numbers_small : (number kind : ℕ) → AllByRecursion (λ b. b < 256) (numbers_from number kind)
numbers_small number kind =
    all_append (λ b. b < 256) (be16_bytes number) (be16_bytes kind ++ (be32_bytes 66 ++ be32_bytes 1)) (bytes16 number)
    (all_append (λ b. b < 256) (be16_bytes kind) (be32_bytes 66 ++ be32_bytes 1) (bytes16 kind) (all_append (λ b. b < 256) (be32_bytes 66) (be32_bytes 1) (bytes32 66) (bytes32 1)))

numbers_long : (number kind : ℕ) (name : List ℕ) → length name ≡ 20 → length (name ++ numbers_from number kind) ≡ 32
unfolding be16_bytes be32_bytes
numbers_long number kind name long = simp length-append (omega (arith, long))

payload_is : (name : List ℕ) (number kind : ℕ) → event_payload name number kind ≡ name ++ numbers_from number kind
unfolding event_payload
payload_is name number kind = simp append_assoc

pub returns : goal.returns
unfolding named dictionary hs_rows mm_rows md_rows cs_rows sc_rows lc_rows event_rows is_kind are_choices event_of
returns c name number kind called bytes low typed time count within few =
    let long = name_long name called in
    subst (λ (xs : List ℕ). IsShownWith (codes "event") (time ∷ count ∷ number ∷ kind ∷ 66 ∷ 1 ∷ []) (with_sequence count (telemetry_of event_id time xs))) (sym (payload_is name number kind))
    (shown_with (codes "event") (row (codes "event") event_id event_message_fields) time count (name ++ numbers_from number kind) _ within few record {
      found = refl;
      first = refl;
      called = refl;
      low = omega arith;
      fields = refl;
      few = let size = numbers_long number kind name long in omega (arith, size);
      bytes = all_append (λ b. b < 256) name (numbers_from number kind) bytes (numbers_small number kind);
      row =
          header_row (field (codes "app") Name ∷ number_fields) time count (name ++ numbers_from number kind)
          ∙ name_row (text_at (codes "app")) number_fields name (numbers_from number kind) called ∙ numbers_row number kind;
      values = event_numbers time count number kind name long within few low typed;
    })
