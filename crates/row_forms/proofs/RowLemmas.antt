-- Lemmas on rows that are read and shown field by field.
use Rattle.std.proofs.Common.{◌≡◌, ℕ, ◌+◌, ◌≤◌, Bool, true, false, ◌&&◌, List, [], ◌∷◌, ◌++◌, length, take, drop, Option, Some, None, refl, ap, sym, ◌∙◌, arith, append_assoc, append-nil, Bor, nat_le, length-append, length-take, length-drop, take_all, subst}
use Rattle.std.specs.Prelude.{Result, Ok, Err, OnOk, replicate, ◌==◌}
use Rattle.std.specs.List.{IsFirstAndRest, list_all}
use Rattle.std.specs.declared.alloc.AllocError.{AllocError}
use Rattle.std.proofs.lemmas.Bool.Decides.{nat_tests}
use Rattle.std.proofs.lemmas.List.{drop_all}
use Rattle.std.proofs.Math.Seq.{drop-append_seam, take-append_seam}
use Rattle.packet_forms.specs.Crc.{crc_of}
use Rattle.packet_forms.specs.Numbers.{be16_at, be16_bytes}
use Rattle.row_forms.specs.declared.field.Field.{Field}
use Rattle.row_forms.specs.declared.field.Field.TheVariants.{Value, Zeros, Check}
use Rattle.row_forms.specs.declared.field.Kind.{Kind}
use Rattle.row_forms.specs.declared.fault.Reason.{Reason}
use Rattle.row_forms.specs.declared.fault.Reason.TheVariants as reasons
use Rattle.row_forms.specs.declared.fault.RowFault.{RowFault}
use Rattle.row_forms.specs.declared.fault.ReadError.{ReadError}
use Rattle.row_forms.specs.declared.fault.ReadError.TheVariants as errors
use Rattle.row_forms.specs.declared.fault.Refusal.{Refusal}
use Rattle.row_forms.specs.declared.fault.Refusal.TheVariants as refusals
use Rattle.row_forms.specs.Values.{value_said, width, can_show, value_shown, reason_of}
use Rattle.row_forms.specs.Rows.{with_front, with_check, fault_at, behind_key, value_or, field_said, then_said, end_said, row_said, row_words, row_shown, spaced, word_shown, is_row, error_at, Gives, GivesField, GivesValue}

-- ---- a field

pub field_unkeyed : (epoch : Option ℕ) (key : List ℕ) (kind : Kind) (word : List ℕ) → behind_key key word ≡ None → field_said epoch key kind word ≡ Err reasons.Key
unfolding field_said
field_unkeyed epoch key kind word e = rw e refl

field_keyed : (epoch : Option ℕ) (key : List ℕ) (kind : Kind) (word text : List ℕ) → behind_key key word ≡ Some text → field_said epoch key kind word ≡ value_or (reason_of kind) (value_said epoch kind text)
unfolding field_said
field_keyed epoch key kind word text e = rw e refl

pub unkeyed_gives : (epoch : Option ℕ) (key : List ℕ) (kind : Kind) (word old new : List ℕ) → behind_key key word ≡ None → GivesField (with_front old (field_said epoch key kind word)) new (Err (refusals.Because reasons.Key))
unkeyed_gives epoch key kind word old new e = rw (field_unkeyed epoch key kind word e) refl

said_by : (reason : Reason) (said : Option (List ℕ)) (old new : List ℕ) → GivesValue said old new true → with_front old (value_or reason said) ≡ Ok new
said_by reason None old new given = absurd (cc)
said_by reason (Some bytes) old new given = ap Ok (sym given.1)

unsaid_by : (reason : Reason) (said : Option (List ℕ)) (old new : List ℕ) → GivesValue said old new false → with_front old (value_or reason said) ≡ Err reason
unsaid_by reason None old new given = refl
unsaid_by reason (Some bytes) old new given = absurd (let e = given.0 in cc)

pub value_gives : (epoch : Option ℕ) (key : List ℕ) (kind : Kind) (word text old new : List ℕ) → behind_key key word ≡ Some text → GivesValue (value_said epoch kind text) old new true → with_front old (field_said epoch key kind word) ≡ Ok new
value_gives epoch key kind word text old new e given = rw (field_keyed epoch key kind word text e) (said_by (reason_of kind) (value_said epoch kind text) old new given)

pub no_value_gives : (epoch : Option ℕ) (key : List ℕ) (kind : Kind) (word text old new : List ℕ) (reason : Reason) → behind_key key word ≡ Some text → GivesValue (value_said epoch kind text) old new false → reason ≡ reason_of kind → with_front old (field_said epoch key kind word) ≡ Err reason
no_value_gives epoch key kind word text old new reason e given is = rw (field_keyed epoch key kind word text e, is) (unsaid_by (reason_of kind) (value_said epoch kind text) old new given)

-- ---- reading a row

no_fields : (fs : List Field) → length fs ≡ 0 → fs ≡ []
no_fields [] e = refl
no_fields (f ∷ fs) e = absurd (omega (arith, e))

row_nil : (epoch : Option ℕ) (n : ℕ) (ws : List (List ℕ)) → row_said epoch n [] ws ≡ end_said n ws
unfolding row_said
row_nil epoch n ws = refl

row_missing : (epoch : Option ℕ) (n : ℕ) (key : Bor (List ℕ)) (kind : Kind) (fs : List Field) → row_said epoch n (Value key kind ∷ fs) [] ≡ Err (fault_at n reasons.Missing)
unfolding row_said
row_missing epoch n key kind fs = refl

row_value : (epoch : Option ℕ) (n : ℕ) (key : Bor (List ℕ)) (kind : Kind) (fs : List Field) (w : List ℕ) (ws : List (List ℕ)) → row_said epoch n (Value key kind ∷ fs) (w ∷ ws) ≡ then_said n (field_said epoch key.now kind w) (row_said epoch (n + 1) fs ws)
unfolding row_said
row_value epoch n key kind fs w ws = refl

row_zeros : (epoch : Option ℕ) (n count : ℕ) (fs : List Field) (ws : List (List ℕ)) → row_said epoch n (Zeros count ∷ fs) ws ≡ with_front (replicate count 0) (row_said epoch n fs ws)
unfolding row_said
row_zeros epoch n count [] ws = refl
row_zeros epoch n count (f ∷ fs) ws = refl

row_check : (epoch : Option ℕ) (n : ℕ) (fs : List Field) (ws : List (List ℕ)) → row_said epoch n (Check ∷ fs) ws ≡ with_check (row_said epoch n fs ws)
unfolding row_said
row_check epoch n [] ws = refl
row_check epoch n (f ∷ fs) ws = refl

pub end_gives : (r : Result (Unit {0}) ReadError) (epoch : Option ℕ) (n : ℕ) (fs : List Field) (ws : List (List ℕ)) (old : List ℕ) → length fs ≡ 0 → ((front : List ℕ) → Gives (with_front front (end_said n ws)) front r) → Gives (with_front old (row_said epoch n fs ws)) old r
end_gives r epoch n fs ws old none given = rw (no_fields fs none, row_nil epoch n ws) (given old)

pub missing_gives : (e : ReadError) (epoch : Option ℕ) (n : ℕ) (fs rest : List Field) (f : Field) (key : Bor (List ℕ)) (kind : Kind) (ws : List (List ℕ)) (old new : List ℕ) → IsFirstAndRest fs f rest → f ≡ Value key kind → ws ≡ [] → e ≡ error_at n (refusals.Because reasons.Missing) → Gives (with_front old (row_said epoch n fs ws)) new (Err e)
missing_gives e epoch n fs rest f key kind ws old new first is none error = rw (error, first.0, is, none, row_missing epoch n key kind rest) refl

front_twice : {E : Type 0} (a b : List ℕ) (said : Result (List ℕ) E) → with_front a (with_front b said) ≡ with_front (a ++ b) said
front_twice a b (Ok bytes) = ap Ok (sym (append_assoc a b bytes))
front_twice a b (Err e) = refl

front_then : (n : ℕ) (said : Result (List ℕ) Reason) (next : Result (List ℕ) RowFault) (old mid : List ℕ) → with_front old said ≡ Ok mid → with_front old (then_said n said next) ≡ with_front mid next
front_then n (Ok bytes) next old mid e = let put : old ++ bytes ≡ mid = cc in front_twice old bytes next ∙ ap (λ (front : List ℕ). with_front front next) put
front_then n (Err reason) next old mid e = absurd (cc)

pub then_gives : (r : Result (Unit {0}) ReadError) (epoch : Option ℕ) (n m : ℕ) (fs rest : List Field) (f : Field) (key : Bor (List ℕ)) (kind : Kind) (ws : List (List ℕ)) (w : List ℕ) (more : List (List ℕ)) (old mid new : List ℕ) → IsFirstAndRest fs f rest → f ≡ Value key kind → ws ≡ w ∷ more → m ≡ n + 1
    → with_front old (field_said epoch key.now kind w) ≡ Ok mid → Gives (with_front mid (row_said epoch m rest more)) new r → Gives (with_front old (row_said epoch n fs ws)) new r
then_gives r epoch n m fs rest f key kind ws w more old mid new first is cut next put given =
    rw (first.0, is, cut, row_value epoch n key kind rest w more, front_then n (field_said epoch key.now kind w) (row_said epoch (n + 1) rest more) old mid put, ← next) given

err_by : (n : ℕ) (said : Result (List ℕ) Reason) (next : Result (List ℕ) RowFault) (old : List ℕ) (reason : Reason) → with_front old said ≡ Err reason → with_front old (then_said n said next) ≡ Err (fault_at n reason)
err_by n (Ok bytes) next old reason e = absurd (cc)
err_by n (Err other) next old reason e = let same : other ≡ reason = cc in ap (λ (x : Reason). Err (fault_at n x)) same

refused_by : (refusal : Refusal) (n : ℕ) (said : Result (List ℕ) Reason) (next : Result (List ℕ) RowFault) (old mid : List ℕ) → GivesField (with_front old said) mid (Err refusal) → Gives (with_front old (then_said n said next)) mid (Err (error_at n refusal))
refused_by (refusals.Memory error) n said next old mid given = tt
refused_by (refusals.Because reason) n said next old mid given = err_by n said next old reason given

pub refused_gives : (e : ReadError) (refusal : Refusal) (epoch : Option ℕ) (n : ℕ) (fs rest : List Field) (f : Field) (key : Bor (List ℕ)) (kind : Kind) (ws : List (List ℕ)) (w : List ℕ) (more : List (List ℕ)) (old mid : List ℕ) → IsFirstAndRest fs f rest → f ≡ Value key kind → ws ≡ w ∷ more
    → GivesField (with_front old (field_said epoch key.now kind w)) mid (Err refusal) → e ≡ error_at n refusal → Gives (with_front old (row_said epoch n fs ws)) mid (Err e)
refused_gives e refusal epoch n fs rest f key kind ws w more old mid first is cut given error =
    let same : row_said epoch n fs ws ≡ then_said n (field_said epoch key.now kind w) (row_said epoch (n + 1) rest more) = rw (first.0, is, cut) (row_value epoch n key kind rest w more) in
    let told = refused_by refusal n (field_said epoch key.now kind w) (row_said epoch (n + 1) rest more) old mid given in
    let P : ReadError → Type 0 = λ x. Gives (with_front old (row_said epoch n fs ws)) mid (Err x) in
    let Q : Result (List ℕ) RowFault → Type 0 = λ x. Gives (with_front old x) mid (Err (error_at n refusal)) in
    subst P (sym error) (subst Q (sym same) told)

pub zeros_gives : (r : Result (Unit {0}) ReadError) (epoch : Option ℕ) (n count : ℕ) (fs rest : List Field) (f : Field) (ws : List (List ℕ)) (old mid new : List ℕ) → IsFirstAndRest fs f rest → f ≡ Zeros count → mid ≡ old ++ replicate count 0
    → Gives (with_front mid (row_said epoch n rest ws)) new r → Gives (with_front old (row_said epoch n fs ws)) new r
zeros_gives r epoch n count fs rest f ws old mid new first is put given =
    rw (first.0, is, row_zeros epoch n count rest ws, front_twice old (replicate count 0) (row_said epoch n rest ws), ← put) given

sealed_by : (said : Result (List ℕ) RowFault) (at : ℕ) (old mid new end : List ℕ) → at ≡ length old → mid ≡ old ++ replicate 2 0 → with_front mid said ≡ Ok new → end ≡ take at new ++ (be16_bytes (crc_of 0 (drop (at + 2) new)) ++ drop (at + 2) new) → with_front old (with_check said) ≡ Ok end
sealed_by (Ok bytes) at old mid new end here put is sealed =
    let whole : mid ++ bytes ≡ new = cc in
    let parts : new ≡ old ++ (0 ∷ 0 ∷ bytes) = sym whole ∙ ap (λ (xs : List ℕ). xs ++ bytes) put ∙ append_assoc old (replicate 2 0) bytes in
    let long : at + 2 ≡ length (old ++ (0 ∷ 0 ∷ [])) = simp length-append (omega (arith, here)) in
    let front : take at new ≡ old = rw (parts, here) (take-append_seam old (0 ∷ 0 ∷ bytes)) in
    let behind : drop (at + 2) new ≡ bytes = rw (parts, long, ← append_assoc old (0 ∷ 0 ∷ []) bytes) (drop-append_seam (old ++ (0 ∷ 0 ∷ [])) bytes) in
    let bare = rw (front, behind) at sealed in ap Ok (sym bare)
sealed_by (Err e) at old mid new end here put is sealed = absurd (cc)

pub check_gives : (epoch : Option ℕ) (n : ℕ) (fs rest : List Field) (f : Field) (ws : List (List ℕ)) (at : ℕ) (old mid new end : List ℕ) → IsFirstAndRest fs f rest → f ≡ Check → at ≡ length old → mid ≡ old ++ replicate 2 0
    → with_front mid (row_said epoch n rest ws) ≡ Ok new → end ≡ take at new ++ (be16_bytes (crc_of 0 (drop (at + 2) new)) ++ drop (at + 2) new) → with_front old (row_said epoch n fs ws) ≡ Ok end
check_gives epoch n fs rest f ws at old mid new end first is here put said sealed =
    rw (first.0, is, row_check epoch n rest ws) (sealed_by (row_said epoch n rest ws) at old mid new end here put said sealed)

room_by : (said : Result (List ℕ) RowFault) (at : ℕ) (old mid new : List ℕ) → at ≡ length old → mid ≡ old ++ replicate 2 0 → with_front mid said ≡ Ok new → at + 2 ≤ length new
room_by (Ok bytes) at old mid new here put is = let whole : mid ++ bytes ≡ new = cc in rw (← whole, put) (simp length-append (omega (arith, here)))
room_by (Err e) at old mid new here put is = absurd (cc)

-- there is room for the check
pub check_room : (epoch : Option ℕ) (n : ℕ) (rest : List Field) (ws : List (List ℕ)) (at : ℕ) (old mid new : List ℕ) → at ≡ length old → mid ≡ old ++ replicate 2 0 → with_front mid (row_said epoch n rest ws) ≡ Ok new → at + 2 ≤ length new
check_room epoch n rest ws at old mid new here put is = room_by (row_said epoch n rest ws) at old mid new here put is

err_check : (said : Result (List ℕ) RowFault) (old mid : List ℕ) (fault : RowFault) → with_front mid said ≡ Err fault → with_front old (with_check said) ≡ Err fault
err_check (Ok bytes) old mid fault e = absurd (cc)
err_check (Err other) old mid fault e = let same : other ≡ fault = cc in ap Err same

unsealed_by : (e : ReadError) (said : Result (List ℕ) RowFault) (old mid new : List ℕ) → Gives (with_front mid said) new (Err e) → Gives (with_front old (with_check said)) new (Err e)
unsealed_by (errors.Memory error) said old mid new given = tt
unsealed_by (errors.Row fault) said old mid new given = err_check said old mid fault given

pub unchecked_gives : (e : ReadError) (epoch : Option ℕ) (n : ℕ) (fs rest : List Field) (f : Field) (ws : List (List ℕ)) (old mid new : List ℕ) → IsFirstAndRest fs f rest → f ≡ Check → Gives (with_front mid (row_said epoch n rest ws)) new (Err e) → Gives (with_front old (row_said epoch n fs ws)) new (Err e)
unchecked_gives e epoch n fs rest f ws old mid new first is given =
    let same : row_said epoch n fs ws ≡ with_check (row_said epoch n rest ws) = rw (first.0, is) (row_check epoch n rest ws) in
    let P : Result (List ℕ) RowFault → Type 0 = λ x. Gives (with_front old x) new (Err e) in
    subst P (sym same) (unsealed_by e (row_said epoch n rest ws) old mid new given)

-- two bytes over two others
pub sealed : (items places check : List ℕ) (at len : ℕ) → len ≡ length items → length check ≡ 2 → at + 2 ≤ length items → places ≡ take at items ++ (check ++ drop (at + length check) items) → take len (places ++ drop (length places) items) ≡ take at items ++ (check ++ drop (at + 2) items)
sealed items places check at len size two room is =
    let whole : length places ≡ length items = rw is (simp (length-append, length-take, length-drop) (omega arith)) in
    let none : drop (length places) items ≡ [] = drop_all (length places) items (omega (arith, whole)) in
    let all : take len places ≡ places = take_all len places (omega (arith, whole, size)) in
    rw (none, append-nil, all, is, two) refl

-- ---- showing a row

and_both : (a b : Bool) → (a && b) ≡ true → (a ≡ true) × (b ≡ true)
and_both true b e = (refl, e)
and_both false b e = absurd (cc)

-- what of a row is asked of a value and of what stands behind it
pub record IsValueOf (kind : Kind) (fs : List Field) (bytes : List ℕ) : Type 0 where
  pub room : width kind bytes ≤ length bytes
  pub shows : can_show kind (take (width kind bytes) bytes) ≡ true
  pub behind : is_row fs (drop (width kind bytes) bytes) ≡ true

pub row_shows : (key : Bor (List ℕ)) (kind : Kind) (fs : List Field) (bytes : List ℕ) → is_row (Value key kind ∷ fs) bytes ≡ true → IsValueOf kind fs bytes
unfolding is_row
row_shows key kind fs bytes e =
    let both = and_both (nat_le (width kind bytes) (length bytes) && can_show kind (take (width kind bytes) bytes)) (is_row fs (drop (width kind bytes) bytes)) e in
    let first = and_both (nat_le (width kind bytes) (length bytes)) (can_show kind (take (width kind bytes) bytes)) both.0 in
    let long = first.0 in
    record { room = grind (arith, nat_tests, long); shows = first.1; behind = both.1 }

pub record IsZerosOf (count : ℕ) (fs : List Field) (bytes : List ℕ) : Type 0 where
  pub room : count ≤ length bytes
  pub zeros : list_all (λ b. b == 0) (take count bytes) ≡ true
  pub behind : is_row fs (drop count bytes) ≡ true

pub row_has_zeros : (count : ℕ) (fs : List Field) (bytes : List ℕ) → is_row (Zeros count ∷ fs) bytes ≡ true → IsZerosOf count fs bytes
unfolding is_row
row_has_zeros count fs bytes e =
    let both = and_both (nat_le count (length bytes) && list_all (λ b. b == 0) (take count bytes)) (is_row fs (drop count bytes)) e in
    let first = and_both (nat_le count (length bytes)) (list_all (λ b. b == 0) (take count bytes)) both.0 in
    let long = first.0 in
    record { room = grind (arith, nat_tests, long); zeros = first.1; behind = both.1 }

pub record IsCheckOf (fs : List Field) (bytes : List ℕ) : Type 0 where
  pub room : 2 ≤ length bytes
  pub check : be16_at bytes 0 ≡ crc_of 0 (drop 2 bytes)
  pub behind : is_row fs (drop 2 bytes) ≡ true

pub row_has_check : (fs : List Field) (bytes : List ℕ) → is_row (Check ∷ fs) bytes ≡ true → IsCheckOf fs bytes
unfolding is_row
row_has_check fs bytes e =
    let both = and_both (nat_le 2 (length bytes) && (be16_at bytes 0 == crc_of 0 (drop 2 bytes))) (is_row fs (drop 2 bytes)) e in
    let first = and_both (nat_le 2 (length bytes)) (be16_at bytes 0 == crc_of 0 (drop 2 bytes)) both.0 in
    let long = first.0 in
    let same = first.1 in
    record { room = grind (arith, nat_tests, long); check = grind (arith, nat_tests, same); behind = both.1 }

pub value_of_row : (fs rest : List Field) (f : Field) (key : Bor (List ℕ)) (kind : Kind) (bytes : List ℕ) → IsFirstAndRest fs f rest → f ≡ Value key kind → is_row fs bytes ≡ true → IsValueOf kind rest bytes
value_of_row fs rest f key kind bytes first is e = row_shows key kind rest bytes (let k = rw (first.0, is) at e in k)

pub zeros_of_row : (fs rest : List Field) (f : Field) (count : ℕ) (bytes : List ℕ) → IsFirstAndRest fs f rest → f ≡ Zeros count → is_row fs bytes ≡ true → IsZerosOf count rest bytes
zeros_of_row fs rest f count bytes first is e = row_has_zeros count rest bytes (let k = rw (first.0, is) at e in k)

pub check_of_row : (fs rest : List Field) (f : Field) (bytes : List ℕ) → IsFirstAndRest fs f rest → f ≡ Check → is_row fs bytes ≡ true → IsCheckOf rest bytes
check_of_row fs rest f bytes first is e = row_has_check rest bytes (let k = rw (first.0, is) at e in k)

no_row : (bytes : List ℕ) → row_shown [] bytes ≡ []
unfolding row_words spaced
no_row bytes = refl

shown_value : (key : Bor (List ℕ)) (kind : Kind) (fs : List Field) (bytes : List ℕ) → row_shown (Value key kind ∷ fs) bytes ≡ 32 ∷ (word_shown key.now (value_shown kind (take (width kind bytes) bytes)) ++ row_shown fs (drop (width kind bytes) bytes))
unfolding row_words spaced
shown_value key kind fs bytes = refl

shown_zeros : (count : ℕ) (fs : List Field) (bytes : List ℕ) → row_shown (Zeros count ∷ fs) bytes ≡ row_shown fs (drop count bytes)
unfolding row_words
shown_zeros count fs bytes = refl

shown_check : (fs : List Field) (bytes : List ℕ) → row_shown (Check ∷ fs) bytes ≡ row_shown fs (drop 2 bytes)
unfolding row_words
shown_check fs bytes = refl

pub end_shown : (fs : List Field) (bytes old : List ℕ) → length fs ≡ 0 → old ≡ old ++ row_shown fs bytes
end_shown fs bytes old none = rw (no_fields fs none, no_row bytes) (sym (append-nil old))

pub value_put : (r : Result (Unit {0}) AllocError) (fs rest : List Field) (f : Field) (key : Bor (List ℕ)) (kind : Kind) (bytes value behind old mid new : List ℕ) → IsFirstAndRest fs f rest → f ≡ Value key kind → value ≡ take (width kind bytes) bytes → behind ≡ drop (width kind bytes) bytes
    → mid ≡ old ++ (32 ∷ word_shown key.now (value_shown kind value)) → OnOk r (new ≡ mid ++ row_shown rest behind) → OnOk r (new ≡ old ++ row_shown fs bytes)
value_put (Ok done) fs rest f key kind bytes value behind old mid new first is here back put given =
    rw (first.0, is, shown_value key kind rest bytes, ← here, ← back) (given ∙ ap (λ (xs : List ℕ). xs ++ row_shown rest behind) put ∙ append_assoc old (32 ∷ word_shown key.now (value_shown kind value)) (row_shown rest behind))
value_put (Err e) fs rest f key kind bytes value behind old mid new first is here back put given = tt

pub zeros_put : (r : Result (Unit {0}) AllocError) (fs rest : List Field) (f : Field) (count : ℕ) (bytes behind old new : List ℕ) → IsFirstAndRest fs f rest → f ≡ Zeros count → behind ≡ drop count bytes → OnOk r (new ≡ old ++ row_shown rest behind) → OnOk r (new ≡ old ++ row_shown fs bytes)
zeros_put r fs rest f count bytes behind old new first is back given = rw (first.0, is, shown_zeros count rest bytes, ← back) given

pub check_put : (r : Result (Unit {0}) AllocError) (fs rest : List Field) (f : Field) (bytes behind old new : List ℕ) → IsFirstAndRest fs f rest → f ≡ Check → behind ≡ drop 2 bytes → OnOk r (new ≡ old ++ row_shown rest behind) → OnOk r (new ≡ old ++ row_shown fs bytes)
check_put r fs rest f bytes behind old new first is back given = rw (first.0, is, shown_check rest bytes, ← back) given
