-- Lemmas on telemetry that are read and shown.
use Rattle.std.proofs.Common.{◌≡◌, ℕ, zero, suc, ◌+◌, ◌<◌, ◌≤◌, Bool, true, false, ◌&&◌, List, [], ◌∷◌, ◌++◌, length, drop, get_or, Option, Some, None, refl, ap, sym, ◌∙◌, arith, subst, add-one, drop-cons, append_assoc, length-append, Bor, not}
use Rattle.std.proofs.lemmas.Bool.{false≢true}
use Rattle.std.specs.Prelude.{nat_eq, ◌==◌, nat_lt, nat_le, if◌then◌else◌, codes, Result, Ok, Err, OnOk}
use Rattle.std.specs.List.{list_all}
use Rattle.std.specs.Str.{bytes_eq}
use Rattle.std.specs.declared.alloc.AllocError.{AllocError}
use Rattle.std.proofs.lemmas.Bool.Decides.{nat_tests}
use Rattle.std.proofs.lemmas.List.{drop_all}
use Rattle.packet_forms.specs.Hex.{hex}
use Rattle.packet_forms.specs.Numbers.{be16_at}
use Rattle.packet_forms.specs.Packets.{message_id, is_command_id}
use Rattle.row_forms.specs.Words.{hex_said}
use Rattle.row_forms.specs.declared.field.Field.{Field}
use Rattle.row_forms.specs.declared.field.Field.TheVariants.{Value, Zeros, Check}
use Rattle.row_forms.specs.declared.field.Kind.{Kind}
use Rattle.row_forms.specs.declared.fault.RowFault.{RowFault}
use Rattle.row_forms.specs.Values.{fixed_size}
use Rattle.row_forms.specs.Rows.{behind_key, fault_at, field_said, then_said, with_front, row_said, row_shown, is_row, are_fields}
use Rattle.row_forms.proofs.SizeLemmas.{field_size}
use Rattle.row_forms.proofs.RowNumberLemmas.{then_parts}
use Rattle.row_forms.specs.declared.fault.Reason.TheVariants as reasons
use Rattle.telemetry.specs.declared.row.TelemetryRow.{TelemetryRow}
use Rattle.telemetry.specs.declared.fault.TelemetryFault.{TelemetryFault}
use Rattle.telemetry.specs.declared.fault.TelemetryFault.TheVariants as faults
use Rattle.telemetry.specs.declared.fault.ReadError.{ReadError}
use Rattle.telemetry.specs.declared.fault.ReadError.TheVariants as errors
use Rattle.telemetry.specs.Telemetry.{is_packet_name, is_size, has_size, begin_with_header, is_good, are_good, named, named_said, packet_said, word_said, telemetry_said, content_of, is_content, packet_of, shows, showing, shown_by, telemetry_shown, are_distinct, GivesPacket}

pub and_both : (a b : Bool) → (a && b) ≡ true → (a ≡ true) × (b ≡ true)
and_both true b e = (refl, e)
and_both false b e = absurd (cc)

none_some : {A : Type 0} {a : A} → (let x : Option A = None in x) ≡ Some a → ⊥
none_some e = absurd (cc)

-- what is asked of a row
pub record IsGood (k : TelemetryRow) : Type 0 where
  pub name : is_packet_name k.name.now ≡ true
  pub version : k.id < 8192
  pub kind : not (is_command_id k.id) ≡ true
  pub few : length k.fields.now < 65536
  pub header : begin_with_header k.fields.now ≡ true
  pub fields : are_fields k.fields.now ≡ true

pub good_is : (k : TelemetryRow) → is_good k ≡ true → IsGood k
unfolding is_good
good_is k e =
    let x1 = and_both (is_packet_name k.name.now && nat_lt k.id 8192 && not (is_command_id k.id) && nat_lt (length k.fields.now) 65536 && begin_with_header k.fields.now) (are_fields k.fields.now) e in
    let x2 = and_both (is_packet_name k.name.now && nat_lt k.id 8192 && not (is_command_id k.id) && nat_lt (length k.fields.now) 65536) (begin_with_header k.fields.now) x1.0 in
    let x3 = and_both (is_packet_name k.name.now && nat_lt k.id 8192 && not (is_command_id k.id)) (nat_lt (length k.fields.now) 65536) x2.0 in
    let x4 = and_both (is_packet_name k.name.now && nat_lt k.id 8192) (not (is_command_id k.id)) x3.0 in
    let x5 = and_both (is_packet_name k.name.now) (nat_lt k.id 8192) x4.0 in
    let h1 = x5.1 in let h2 = x3.1 in
    record { name = x5.0; version = grind (arith, nat_tests, h1); kind = x4.1; few = grind (arith, nat_tests, h2); header = x2.1; fields = x1.1 }

at_all : (p : TelemetryRow → Bool) (ks : List TelemetryRow) (i : ℕ) (d : TelemetryRow) → list_all p ks ≡ true → i < length ks → p (get_or ks i d) ≡ true
at_all p [] i d e h = absurd (omega (arith, h))
at_all p (k ∷ ks) zero d e h = (and_both (p k) (list_all p ks) e).0
at_all p (k ∷ ks) (suc i) d e h = at_all p ks i d (and_both (p k) (list_all p ks) e).1 (omega (arith, h))

-- each of good rows is good
pub good_at : (ks : List TelemetryRow) (i : ℕ) (d : TelemetryRow) → are_good ks ≡ true → i < length ks → is_good (get_or ks i d) ≡ true
unfolding are_good
good_at ks i d e h = at_all is_good ks i d e h

named_cons : (k : TelemetryRow) (ks : List TelemetryRow) (name : List ℕ) → named (k ∷ ks) name ≡ (if bytes_eq k.name.now name then Some k else named ks name)
unfolding named
named_cons k ks name = refl

named_step : (ks : List TelemetryRow) (i : ℕ) (d : TelemetryRow) (name : List ℕ) → i < length ks → named (drop i ks) name ≡ (if bytes_eq (get_or ks i d).name.now name then Some (get_or ks i d) else named (drop (i + 1) ks) name)
named_step ks i d name h = rw add-one (ap (λ (xs : List TelemetryRow). named xs name) (drop-cons ks i d h) ∙ named_cons (get_or ks i d) (drop (suc i) ks) name)

pub named_found : (ks : List TelemetryRow) (i : ℕ) (d : TelemetryRow) (bytes name : List ℕ) → i < length ks → bytes ≡ (get_or ks i d).name.now → true ≡ bytes_eq bytes name → named (drop i ks) name ≡ Some (get_or ks i d)
named_found ks i d bytes name h e found =
    let t : bytes_eq (get_or ks i d).name.now name ≡ true = rw (← e) (sym found) in
    named_step ks i d name h ∙ rw t refl

pub named_passed : (ks : List TelemetryRow) (i : ℕ) (d : TelemetryRow) (bytes name : List ℕ) → i < length ks → bytes ≡ (get_or ks i d).name.now → false ≡ bytes_eq bytes name → named (drop i ks) name ≡ named (drop (i + 1) ks) name
named_passed ks i d bytes name h e found =
    let t : bytes_eq (get_or ks i d).name.now name ≡ false = rw (← e) (sym found) in
    named_step ks i d name h ∙ rw t refl

named_nil : (name : List ℕ) → named [] name ≡ None
unfolding named
named_nil name = refl

pub named_none : (ks : List TelemetryRow) (i : ℕ) (name : List ℕ) → length ks ≤ i → named (drop i ks) name ≡ None
named_none ks i name h = ap (λ (xs : List TelemetryRow). named xs name) (drop_all i ks h) ∙ named_nil name

showing_cons : (k : TelemetryRow) (ks : List TelemetryRow) (packet : List ℕ) → showing (k ∷ ks) packet ≡ (if shows packet k then Some k else showing ks packet)
unfolding showing
showing_cons k ks packet = refl

showing_step : (ks : List TelemetryRow) (i : ℕ) (d : TelemetryRow) (packet : List ℕ) → i < length ks → showing (drop i ks) packet ≡ (if shows packet (get_or ks i d) then Some (get_or ks i d) else showing (drop (i + 1) ks) packet)
showing_step ks i d packet h = rw add-one (ap (λ (xs : List TelemetryRow). showing xs packet) (drop-cons ks i d h) ∙ showing_cons (get_or ks i d) (drop (suc i) ks) packet)

pub showing_found : (ks : List TelemetryRow) (i : ℕ) (d : TelemetryRow) (packet : List ℕ) → i < length ks → shows packet (get_or ks i d) ≡ true → showing (drop i ks) packet ≡ Some (get_or ks i d)
showing_found ks i d packet h t = showing_step ks i d packet h ∙ rw t refl

pub showing_passed : (ks : List TelemetryRow) (i : ℕ) (d : TelemetryRow) (packet : List ℕ) → i < length ks → shows packet (get_or ks i d) ≡ false → showing (drop i ks) packet ≡ showing (drop (i + 1) ks) packet
showing_passed ks i d packet h t = showing_step ks i d packet h ∙ rw t refl

showing_nil : (packet : List ℕ) → showing [] packet ≡ None
unfolding showing
showing_nil packet = refl

pub showing_none : (ks : List TelemetryRow) (i : ℕ) (packet : List ℕ) → length ks ≤ i → showing (drop i ks) packet ≡ None
showing_none ks i packet h = ap (λ (xs : List TelemetryRow). showing xs packet) (drop_all i ks h) ∙ showing_nil packet

-- ---- reading

said_nil : (epoch : Option ℕ) (n : ℕ) (ks : List TelemetryRow) → telemetry_said epoch n ks [] ≡ Err (faults.Row (fault_at n reasons.Missing))
unfolding telemetry_said
said_nil epoch n ks = refl

said_cons : (epoch : Option ℕ) (n : ℕ) (ks : List TelemetryRow) (w : List ℕ) (ws : List (List ℕ)) → telemetry_said epoch n ks (w ∷ ws) ≡ word_said epoch n ks (behind_key (codes "packet") w) w ws
unfolding telemetry_said
said_cons epoch n ks w ws = refl

pub missing_gives : (e : ReadError) (epoch : Option ℕ) (n : ℕ) (ks : List TelemetryRow) (ws : List (List ℕ)) → ws ≡ [] → e ≡ errors.Fault (faults.Row (fault_at n reasons.Missing)) → GivesPacket (telemetry_said epoch n ks ws) (Err e)
missing_gives e epoch n ks ws none error = rw (error, none) (said_nil epoch n ks)

pub packet_gives : (r : Result (List ℕ) ReadError) (epoch : Option ℕ) (n : ℕ) (ks : List TelemetryRow) (ws more : List (List ℕ)) (w text : List ℕ) → ws ≡ w ∷ more → behind_key (codes "packet") w ≡ Some text → GivesPacket (packet_said n (hex_said text) more) r → GivesPacket (telemetry_said epoch n ks ws) r
packet_gives r epoch n ks ws more w text cut key given =
    let same : telemetry_said epoch n ks ws ≡ packet_said n (hex_said text) more = rw cut (said_cons epoch n ks w more ∙ ap (λ (o : Option (List ℕ)). word_said epoch n ks o w more) key) in
    let P : Result (List ℕ) TelemetryFault → Type 0 = λ x. GivesPacket x r in
    subst P (sym same) given

pub named_gives : (r : Result (List ℕ) ReadError) (epoch : Option ℕ) (n : ℕ) (ks : List TelemetryRow) (ws more : List (List ℕ)) (w : List ℕ) (k : Option TelemetryRow) → ws ≡ w ∷ more → behind_key (codes "packet") w ≡ None → k ≡ named ks w → GivesPacket (named_said epoch n k more) r → GivesPacket (telemetry_said epoch n ks ws) r
named_gives r epoch n ks ws more w k cut key is given =
    let same : telemetry_said epoch n ks ws ≡ named_said epoch n k more = rw cut (said_cons epoch n ks w more ∙ ap (λ (o : Option (List ℕ)). word_said epoch n ks o w more) key ∙ ap (λ (o : Option TelemetryRow). named_said epoch n o more) (sym is)) in
    let P : Result (List ℕ) TelemetryFault → Type 0 = λ x. GivesPacket x r in
    subst P (sym same) given

pub unnamed_said : (epoch : Option ℕ) (n : ℕ) (ks : List TelemetryRow) (ws more : List (List ℕ)) (w : List ℕ) → ws ≡ w ∷ more → behind_key (codes "packet") w ≡ None → None ≡ named ks w → telemetry_said epoch n ks ws ≡ Err (faults.Name n)
unnamed_said epoch n ks ws more w cut key none = rw cut (said_cons epoch n ks w more ∙ ap (λ (o : Option (List ℕ)). word_said epoch n ks o w more) key ∙ ap (λ (o : Option TelemetryRow). named_said epoch n o more) (sym none))

-- ---- showing

-- what is known where a row's words say a packet
pub record IsShown (packet : List ℕ) (k : TelemetryRow) : Type 0 where
  pub content : is_content (content_of packet) ≡ true
  pub row : is_row k.fields.now (content_of packet) ≡ true
  pub whole : bytes_eq (packet_of k.id (content_of packet)) packet ≡ true

pub shown_is : (packet : List ℕ) (k : TelemetryRow) → shows packet k ≡ true → IsShown packet k
unfolding shows
shown_is packet k e =
    let x = and_both ((message_id packet == k.id) && is_content (content_of packet) && is_row k.fields.now (content_of packet)) (bytes_eq (packet_of k.id (content_of packet)) packet) e in
    let y = and_both ((message_id packet == k.id) && is_content (content_of packet)) (is_row k.fields.now (content_of packet)) x.0 in
    let z = and_both (message_id packet == k.id) (is_content (content_of packet)) y.0 in
    record { content = z.1; row = y.1; whole = x.1 }

shown_as : (ks : List TelemetryRow) (packet : List ℕ) (o : Option TelemetryRow) → o ≡ showing ks packet → telemetry_shown ks packet ≡ shown_by o packet
unfolding telemetry_shown
shown_as ks packet o e = ap (λ (x : Option TelemetryRow). shown_by x packet) (sym e)

pub shown_put : (r : Result (Unit {0}) AllocError) (ks : List TelemetryRow) (packet : List ℕ) (k : TelemetryRow) (content old mid new : List ℕ) → Some k ≡ showing ks packet → content ≡ content_of packet → mid ≡ old ++ k.name.now → OnOk r (new ≡ mid ++ row_shown k.fields.now content) → OnOk r (new ≡ old ++ telemetry_shown ks packet)
shown_put (Ok done) ks packet k content old mid new is from put given =
    given ∙ ap (λ (xs : List ℕ). xs ++ row_shown k.fields.now content) put ∙ append_assoc old k.name.now (row_shown k.fields.now content)
    ∙ ap (λ (xs : List ℕ). old ++ (k.name.now ++ row_shown k.fields.now xs)) from ∙ ap (λ (xs : List ℕ). old ++ xs) (sym (shown_as ks packet (Some k) is))
shown_put (Err e) ks packet k content old mid new is from put given = tt

pub bytes_put : (r : Result (Unit {0}) AllocError) (ks : List TelemetryRow) (packet bytes old mid new : List ℕ) → None ≡ showing ks packet → bytes ≡ packet → mid ≡ old ++ codes "packet=" → OnOk r (new ≡ mid ++ hex bytes) → OnOk r (new ≡ old ++ telemetry_shown ks packet)
bytes_put (Ok done) ks packet bytes old mid new is from put given =
    given ∙ ap (λ (xs : List ℕ). xs ++ hex bytes) put ∙ append_assoc old (codes "packet=") (hex bytes)
    ∙ ap (λ (xs : List ℕ). old ++ (codes "packet=" ++ hex xs)) from ∙ ap (λ (xs : List ℕ). old ++ xs) (sym (shown_as ks packet None is))
bytes_put (Err e) ks packet bytes old mid new is from put given = tt

-- ---- reading back

-- what is known of a row that is shown
pub record IsFound (ks : List TelemetryRow) (packet : List ℕ) (k : TelemetryRow) : Type 0 where
  pub good : is_good k ≡ true
  pub shown : shows packet k ≡ true
  pub name : named ks k.name.now ≡ Some k

bytes_same : (xs : List ℕ) → bytes_eq xs xs ≡ true
bytes_same [] = refl
bytes_same (x ∷ xs) = let e : nat_eq x x ≡ true = grind (arith, nat_tests) in rw (e, bytes_same xs) refl

pub same_bytes : (xs ys : List ℕ) → bytes_eq xs ys ≡ true → xs ≡ ys
same_bytes [] [] e = refl
same_bytes [] (y ∷ ys) e = absurd (false≢true e)
same_bytes (x ∷ xs) [] e = absurd (false≢true e)
same_bytes (x ∷ xs) (y ∷ ys) e =
    let both = and_both (nat_eq x y) (bytes_eq xs ys) e in
    let here = both.0 in
    let first : x ≡ y = grind (arith, nat_tests, here) in
    let rest = same_bytes xs ys both.1 in
    cc

distinct_is : (k : TelemetryRow) (ks : List TelemetryRow) → are_distinct (k ∷ ks) ≡ true → (list_all (λ d. not (bytes_eq d.name.now k.name.now)) ks ≡ true) × (are_distinct ks ≡ true)
unfolding are_distinct
distinct_is k ks e = and_both (list_all (λ d. not (bytes_eq d.name.now k.name.now)) ks) (are_distinct ks) e

good_cons : (k : TelemetryRow) (ks : List TelemetryRow) → are_good (k ∷ ks) ≡ true → (is_good k ≡ true) × (are_good ks ≡ true)
unfolding are_good
good_cons k ks e = and_both (is_good k) (list_all is_good ks) e

some_same : (k d : TelemetryRow) → (let x : Option TelemetryRow = Some k in x) ≡ Some d → k ≡ d
some_same k d e = cc

not_false : (b : Bool) → not b ≡ true → b ≡ false
not_false true e = absurd (false≢true e)
not_false false e = refl

bytes_turned : (xs ys : List ℕ) → bytes_eq xs ys ≡ false → bytes_eq ys xs ≡ false
bytes_turned [] [] e = e
bytes_turned [] (y ∷ ys) e = refl
bytes_turned (x ∷ xs) [] e = refl
bytes_turned (x ∷ xs) (y ∷ ys) e = by (nat_eq x y) refl e (bytes_turned xs ys) where
  by : (b : Bool) → nat_eq x y ≡ b → (b && bytes_eq xs ys) ≡ false → (bytes_eq xs ys ≡ false → bytes_eq ys xs ≡ false) → (nat_eq y x && bytes_eq ys xs) ≡ false
  by true s r behind =
      let t : nat_eq y x ≡ true = grind (arith, nat_tests) in
      rw t (behind r)
  by false s r behind =
      let t : nat_eq y x ≡ false = grind (arith, nat_tests) in
      rw t refl

-- a row that is found by a packet has another name than one in front of it
other_name : (first k : TelemetryRow) (ks : List TelemetryRow) (packet : List ℕ) → list_all (λ d. not (bytes_eq d.name.now first.name.now)) ks ≡ true → showing ks packet ≡ Some k → bytes_eq k.name.now first.name.now ≡ false
unfolding showing
other_name first k [] packet others e = absurd (none_some e)
other_name first k (d ∷ ks) packet others e =
    let both = and_both (not (bytes_eq d.name.now first.name.now)) (list_all (λ d. not (bytes_eq d.name.now first.name.now)) ks) others in
    by (shows packet d) e (not_false (bytes_eq d.name.now first.name.now) both.0) (other_name first k ks packet both.1) where
      by : (b : Bool) → (if b then Some d else showing ks packet) ≡ Some k → bytes_eq d.name.now first.name.now ≡ false → (showing ks packet ≡ Some k → bytes_eq k.name.now first.name.now ≡ false) → bytes_eq k.name.now first.name.now ≡ false
      by true f here behind = let same = some_same d k f in rw (← same) here
      by false f here behind = behind f

-- the first row that shows a packet is the first of its name
pub found_is : (ks : List TelemetryRow) (packet : List ℕ) (k : TelemetryRow) → are_good ks ≡ true → are_distinct ks ≡ true → showing ks packet ≡ Some k → IsFound ks packet k
found_is [] packet k good distinct e = absurd (none_some (sym (showing_nil packet) ∙ e))
found_is (d ∷ ks) packet k good distinct e =
    let goods = good_cons d ks good in
    let names = distinct_is d ks distinct in
    by (shows packet d) refl (sym (showing_cons d ks packet) ∙ e) goods.0 (found_is ks packet k goods.1 names.1) (other_name d k ks packet names.0) where
      by : (b : Bool) → shows packet d ≡ b → (if b then Some d else showing ks packet) ≡ Some k → is_good d ≡ true → (showing ks packet ≡ Some k → IsFound ks packet k) → (showing ks packet ≡ Some k → bytes_eq k.name.now d.name.now ≡ false) → IsFound (d ∷ ks) packet k
      by true s f here behind other =
          let same = some_same d k f in
          record {
            good = rw (← same) here;
            shown = rw (← same) s;
            name = rw (← same) (named_cons d ks d.name.now ∙ rw (bytes_same d.name.now) refl);
          }
      by false s f here behind other =
          let is = behind f in
          let differs = bytes_turned k.name.now d.name.now (other f) in
          record { good = is.good; shown = is.shown; name = named_cons d ks k.name.now ∙ rw differs is.name }

-- ---- the header

size_is : (size : ℕ) (o : Option ℕ) → is_size size o ≡ true → o ≡ Some size
size_is size (Some n) e = let same : n ≡ size = grind (arith, nat_tests, e) in ap Some same
size_is size None e = absurd (false≢true e)

-- what a row says, behind the bytes of its first field
record IsBehind (epoch : Option ℕ) (n size : ℕ) (fs : List Field) (bytes : List ℕ) : Type 0 where
  ws : List (List ℕ)
  rest : List ℕ
  said : row_said epoch (n + 1) fs ws ≡ Ok rest
  long : length bytes ≡ size + length rest

value_cons : (epoch : Option ℕ) (n : ℕ) (key : Bor (List ℕ)) (kind : Kind) (fs : List Field) (w : List ℕ) (ws : List (List ℕ)) → row_said epoch n (Value key kind ∷ fs) (w ∷ ws) ≡ then_said n (field_said epoch key.now kind w) (row_said epoch (n + 1) fs ws)
unfolding row_said
value_cons epoch n key kind fs w ws = refl

no_word : (epoch : Option ℕ) (n : ℕ) (key : Bor (List ℕ)) (kind : Kind) (fs : List Field) (bytes : List ℕ) → row_said epoch n (Value key kind ∷ fs) [] ≡ Ok bytes → ⊥
unfolding row_said
no_word epoch n key kind fs bytes e = absurd (cc)

behind_field : (epoch : Option ℕ) (n size : ℕ) (f : Field) (fs : List Field) (ws : List (List ℕ)) (bytes : List ℕ) → has_size size f ≡ true → row_said epoch n (f ∷ fs) ws ≡ Ok bytes → IsBehind epoch n size fs bytes
behind_field epoch n size (Value key kind) fs [] bytes sized e = absurd (no_word epoch n key kind fs bytes e)
behind_field epoch n size (Value key kind) fs (w ∷ ws) bytes sized e =
    let parts = then_parts n bytes (field_said epoch key.now kind w) (row_said epoch (n + 1) fs ws) (sym (value_cons epoch n key kind fs w ws) ∙ e) in
    let long = field_size epoch key.now kind w parts.0 size (size_is size (fixed_size kind) sized) parts.2 in
    record { ws = ws; rest = parts.1; said = parts.3; long = ap length (sym parts.4) ∙ length-append parts.0 parts.1 ∙ ap (λ (m : ℕ). m + length parts.1) long }
behind_field epoch n size (Zeros count) fs ws bytes sized e = absurd (false≢true sized)
behind_field epoch n size Check fs ws bytes sized e = absurd (false≢true sized)

header_is : (f g : Field) (fs : List Field) → begin_with_header (f ∷ g ∷ fs) ≡ true → (has_size 4 f ≡ true) × (has_size 2 g ≡ true)
unfolding begin_with_header
header_is f g fs e = and_both (has_size 4 f) (has_size 2 g) e

no_header : (fs : List Field) → length fs < 2 → begin_with_header fs ≡ true → ⊥
unfolding begin_with_header
no_header [] few e = absurd (false≢true e)
no_header (f ∷ []) few e = absurd (false≢true e)
no_header (f ∷ g ∷ fs) few e = absurd (omega (arith, few))

-- what a row says has a header
header_said : (epoch : Option ℕ) (n : ℕ) (fs : List Field) (ws : List (List ℕ)) (bytes : List ℕ) → begin_with_header fs ≡ true → row_said epoch n fs ws ≡ Ok bytes → 6 ≤ length bytes
header_said epoch n [] ws bytes h e = absurd (no_header [] (omega arith) h)
header_said epoch n (f ∷ []) ws bytes h e = absurd (no_header (f ∷ []) (omega arith) h)
header_said epoch n (f ∷ g ∷ fs) ws bytes h e =
    let sizes = header_is f g fs h in
    let first = behind_field epoch n 4 f (g ∷ fs) ws bytes sizes.0 e in
    let second = behind_field epoch (n + 1) 2 g fs first.ws first.rest sizes.1 first.said in
    omega (arith, first.long, second.long)

alone : (said : Result (List ℕ) RowFault) (bytes : List ℕ) → with_front [] said ≡ Ok bytes → said ≡ Ok bytes
alone (Ok x) bytes e = e
alone (Err fault) bytes e = absurd (cc)

pub header_read : (epoch : Option ℕ) (n : ℕ) (fs : List Field) (ws : List (List ℕ)) (old new : List ℕ) → begin_with_header fs ≡ true → old ≡ [] → with_front old (row_said epoch n fs ws) ≡ Ok new → 6 ≤ length new
header_read epoch n fs ws old new h none e =
    header_said epoch n fs ws new h (alone (row_said epoch n fs ws) new (ap (λ (xs : List ℕ). with_front xs (row_said epoch n fs ws)) (sym none) ∙ e))

-- a packet can be made of what has a header, at most 250 bytes and a count of 14 bits
pub content_is : (content : List ℕ) → 6 ≤ length content → length content ≤ 250 → be16_at content 4 ≤ 16383 → is_content content ≡ true
content_is content low high count =
    let a : nat_le 6 (length content) ≡ true = grind (arith, nat_tests) in
    let b : nat_le (length content) 250 ≡ true = grind (arith, nat_tests) in
    let d : nat_le (be16_at content 4) 16383 ≡ true = grind (arith, nat_tests) in
    rw (a, b, d) refl
