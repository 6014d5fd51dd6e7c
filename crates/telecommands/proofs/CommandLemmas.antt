-- Lemmas on telecommands that are read and shown.
use Rattle.std.proofs.Common.{◌≡◌, ℕ, zero, suc, ◌+◌, ◌<◌, ◌≤◌, Bool, true, false, ◌&&◌, List, [], ◌∷◌, ◌++◌, length, drop, get_or, Option, Some, None, refl, ap, sym, ◌∙◌, arith, subst, add-one, drop-cons, append_assoc, length-drop, not}
use Rattle.std.proofs.lemmas.Bool.{false≢true}
use Rattle.std.specs.Prelude.{nat_eq, ◌==◌, nat_lt, nat_le, if◌then◌else◌, codes, Result, Ok, Err, OnOk}
use Rattle.std.specs.List.{list_all}
use Rattle.std.specs.Str.{bytes_eq}
use Rattle.std.specs.declared.alloc.AllocError.{AllocError}
use Rattle.std.proofs.lemmas.Bool.Decides.{nat_tests}
use Rattle.std.proofs.lemmas.List.{drop_all}
use Rattle.packet_forms.specs.Built.{command_of}
use Rattle.packet_forms.specs.Hex.{hex}
use Rattle.packet_forms.specs.Packets.{message_id, is_command, is_command_id, function_code, payload_of}
use Rattle.row_forms.specs.Words.{hex_said}
use Rattle.row_forms.specs.Rows.{behind_key, fault_at, row_shown, is_row, are_fields}
use Rattle.row_forms.specs.declared.fault.Reason.TheVariants as reasons
use Rattle.telecommands.specs.declared.command.Command.{Command}
use Rattle.telecommands.specs.declared.fault.CommandFault.{CommandFault}
use Rattle.telecommands.specs.declared.fault.CommandFault.TheVariants as faults
use Rattle.telecommands.specs.declared.fault.ReadError.{ReadError}
use Rattle.telecommands.specs.declared.fault.ReadError.TheVariants as errors
use Rattle.telecommands.specs.Commands.{is_command_name, is_good, are_good, named, named_said, packet_said, word_said, command_said, shows, showing, shown_by, command_shown, are_distinct, GivesPacket}

pub and_both : (a b : Bool) → (a && b) ≡ true → (a ≡ true) × (b ≡ true)
and_both true b e = (refl, e)
and_both false b e = absurd (cc)

none_some : {A : Type 0} {a : A} → (let x : Option A = None in x) ≡ Some a → ⊥
none_some e = absurd (cc)

-- what is asked of a command
pub record IsGood (c : Command) : Type 0 where
  pub name : is_command_name c.name.now ≡ true
  pub version : c.id < 8192
  pub kind : is_command_id c.id ≡ true
  pub code : c.code ≤ 127
  pub few : length c.fields.now < 65536
  pub fields : are_fields c.fields.now ≡ true

pub good_is : (c : Command) → is_good c ≡ true → IsGood c
unfolding is_good
good_is c e =
    let x1 = and_both (is_command_name c.name.now && nat_lt c.id 8192 && is_command_id c.id && nat_le c.code 127 && nat_lt (length c.fields.now) 65536) (are_fields c.fields.now) e in
    let x2 = and_both (is_command_name c.name.now && nat_lt c.id 8192 && is_command_id c.id && nat_le c.code 127) (nat_lt (length c.fields.now) 65536) x1.0 in
    let x3 = and_both (is_command_name c.name.now && nat_lt c.id 8192 && is_command_id c.id) (nat_le c.code 127) x2.0 in
    let x4 = and_both (is_command_name c.name.now && nat_lt c.id 8192) (is_command_id c.id) x3.0 in
    let x5 = and_both (is_command_name c.name.now) (nat_lt c.id 8192) x4.0 in
    let h1 = x5.1 in let h2 = x3.1 in let h3 = x2.1 in
    record { name = x5.0; version = grind (arith, nat_tests, h1); kind = x4.1; code = grind (arith, nat_tests, h2); few = grind (arith, nat_tests, h3); fields = x1.1 }

at_all : (p : Command → Bool) (cs : List Command) (i : ℕ) (d : Command) → list_all p cs ≡ true → i < length cs → p (get_or cs i d) ≡ true
at_all p [] i d e h = absurd (omega (arith, h))
at_all p (c ∷ cs) zero d e h = (and_both (p c) (list_all p cs) e).0
at_all p (c ∷ cs) (suc i) d e h = at_all p cs i d (and_both (p c) (list_all p cs) e).1 (omega (arith, h))

-- each of good commands is good
pub good_at : (cs : List Command) (i : ℕ) (d : Command) → are_good cs ≡ true → i < length cs → is_good (get_or cs i d) ≡ true
unfolding are_good
good_at cs i d e h = at_all is_good cs i d e h

named_cons : (c : Command) (cs : List Command) (name : List ℕ) → named (c ∷ cs) name ≡ (if bytes_eq c.name.now name then Some c else named cs name)
unfolding named
named_cons c cs name = refl

named_step : (cs : List Command) (i : ℕ) (d : Command) (name : List ℕ) → i < length cs → named (drop i cs) name ≡ (if bytes_eq (get_or cs i d).name.now name then Some (get_or cs i d) else named (drop (i + 1) cs) name)
named_step cs i d name h = rw add-one (ap (λ (xs : List Command). named xs name) (drop-cons cs i d h) ∙ named_cons (get_or cs i d) (drop (suc i) cs) name)

pub named_found : (cs : List Command) (i : ℕ) (d : Command) (bytes name : List ℕ) → i < length cs → bytes ≡ (get_or cs i d).name.now → true ≡ bytes_eq bytes name → named (drop i cs) name ≡ Some (get_or cs i d)
named_found cs i d bytes name h e found =
    let t : bytes_eq (get_or cs i d).name.now name ≡ true = rw (← e) (sym found) in
    named_step cs i d name h ∙ rw t refl

pub named_passed : (cs : List Command) (i : ℕ) (d : Command) (bytes name : List ℕ) → i < length cs → bytes ≡ (get_or cs i d).name.now → false ≡ bytes_eq bytes name → named (drop i cs) name ≡ named (drop (i + 1) cs) name
named_passed cs i d bytes name h e found =
    let t : bytes_eq (get_or cs i d).name.now name ≡ false = rw (← e) (sym found) in
    named_step cs i d name h ∙ rw t refl

named_nil : (name : List ℕ) → named [] name ≡ None
unfolding named
named_nil name = refl

pub named_none : (cs : List Command) (i : ℕ) (name : List ℕ) → length cs ≤ i → named (drop i cs) name ≡ None
named_none cs i name h = ap (λ (xs : List Command). named xs name) (drop_all i cs h) ∙ named_nil name

showing_cons : (c : Command) (cs : List Command) (packet : List ℕ) → showing (c ∷ cs) packet ≡ (if shows packet c then Some c else showing cs packet)
unfolding showing
showing_cons c cs packet = refl

showing_step : (cs : List Command) (i : ℕ) (d : Command) (packet : List ℕ) → i < length cs → showing (drop i cs) packet ≡ (if shows packet (get_or cs i d) then Some (get_or cs i d) else showing (drop (i + 1) cs) packet)
showing_step cs i d packet h = rw add-one (ap (λ (xs : List Command). showing xs packet) (drop-cons cs i d h) ∙ showing_cons (get_or cs i d) (drop (suc i) cs) packet)

pub showing_found : (cs : List Command) (i : ℕ) (d : Command) (packet : List ℕ) → i < length cs → shows packet (get_or cs i d) ≡ true → showing (drop i cs) packet ≡ Some (get_or cs i d)
showing_found cs i d packet h t = showing_step cs i d packet h ∙ rw t refl

pub showing_passed : (cs : List Command) (i : ℕ) (d : Command) (packet : List ℕ) → i < length cs → shows packet (get_or cs i d) ≡ false → showing (drop i cs) packet ≡ showing (drop (i + 1) cs) packet
showing_passed cs i d packet h t = showing_step cs i d packet h ∙ rw t refl

showing_nil : (packet : List ℕ) → showing [] packet ≡ None
unfolding showing
showing_nil packet = refl

pub showing_none : (cs : List Command) (i : ℕ) (packet : List ℕ) → length cs ≤ i → showing (drop i cs) packet ≡ None
showing_none cs i packet h = ap (λ (xs : List Command). showing xs packet) (drop_all i cs h) ∙ showing_nil packet

-- ---- reading

said_nil : (epoch : Option ℕ) (n : ℕ) (cs : List Command) → command_said epoch n cs [] ≡ Err (faults.Row (fault_at n reasons.Missing))
unfolding command_said
said_nil epoch n cs = refl

said_cons : (epoch : Option ℕ) (n : ℕ) (cs : List Command) (w : List ℕ) (ws : List (List ℕ)) → command_said epoch n cs (w ∷ ws) ≡ word_said epoch n cs (behind_key (codes "packet") w) w ws
unfolding command_said
said_cons epoch n cs w ws = refl

pub missing_gives : (e : ReadError) (epoch : Option ℕ) (n : ℕ) (cs : List Command) (ws : List (List ℕ)) → ws ≡ [] → e ≡ errors.Fault (faults.Row (fault_at n reasons.Missing)) → GivesPacket (command_said epoch n cs ws) (Err e)
missing_gives e epoch n cs ws none error = rw (error, none) (said_nil epoch n cs)

pub packet_gives : (r : Result (List ℕ) ReadError) (epoch : Option ℕ) (n : ℕ) (cs : List Command) (ws more : List (List ℕ)) (w text : List ℕ) → ws ≡ w ∷ more → behind_key (codes "packet") w ≡ Some text → GivesPacket (packet_said n (hex_said text) more) r → GivesPacket (command_said epoch n cs ws) r
packet_gives r epoch n cs ws more w text cut key given =
    let same : command_said epoch n cs ws ≡ packet_said n (hex_said text) more = rw cut (said_cons epoch n cs w more ∙ ap (λ (o : Option (List ℕ)). word_said epoch n cs o w more) key) in
    let P : Result (List ℕ) CommandFault → Type 0 = λ x. GivesPacket x r in
    subst P (sym same) given

pub named_gives : (r : Result (List ℕ) ReadError) (epoch : Option ℕ) (n : ℕ) (cs : List Command) (ws more : List (List ℕ)) (w : List ℕ) (c : Option Command) → ws ≡ w ∷ more → behind_key (codes "packet") w ≡ None → c ≡ named cs w → GivesPacket (named_said epoch n c more) r → GivesPacket (command_said epoch n cs ws) r
named_gives r epoch n cs ws more w c cut key is given =
    let same : command_said epoch n cs ws ≡ named_said epoch n c more = rw cut (said_cons epoch n cs w more ∙ ap (λ (o : Option (List ℕ)). word_said epoch n cs o w more) key ∙ ap (λ (o : Option Command). named_said epoch n o more) (sym is)) in
    let P : Result (List ℕ) CommandFault → Type 0 = λ x. GivesPacket x r in
    subst P (sym same) given

pub unnamed_said : (epoch : Option ℕ) (n : ℕ) (cs : List Command) (ws more : List (List ℕ)) (w : List ℕ) → ws ≡ w ∷ more → behind_key (codes "packet") w ≡ None → None ≡ named cs w → command_said epoch n cs ws ≡ Err (faults.Name n)
unnamed_said epoch n cs ws more w cut key none = rw cut (said_cons epoch n cs w more ∙ ap (λ (o : Option (List ℕ)). word_said epoch n cs o w more) key ∙ ap (λ (o : Option Command). named_said epoch n o more) (sym none))

-- ---- showing

-- what is known where a command's words say a packet
pub record IsShown (packet : List ℕ) (c : Command) : Type 0 where
  pub row : is_row c.fields.now (payload_of packet) ≡ true
  pub whole : bytes_eq (command_of c.id c.code (payload_of packet)) packet ≡ true

pub shown_is : (packet : List ℕ) (c : Command) → shows packet c ≡ true → IsShown packet c
unfolding shows
shown_is packet c e =
    let x = and_both ((message_id packet == c.id) && (function_code packet == c.code) && is_row c.fields.now (payload_of packet)) (bytes_eq (command_of c.id c.code (payload_of packet)) packet) e in
    let y = and_both ((message_id packet == c.id) && (function_code packet == c.code)) (is_row c.fields.now (payload_of packet)) x.0 in
    record { row = y.1; whole = x.1 }

command_is : (cs : List Command) (packet : List ℕ) (o : Option Command) → o ≡ showing cs packet → command_shown cs packet ≡ shown_by o packet
unfolding command_shown
command_is cs packet o e = ap (λ (x : Option Command). shown_by x packet) (sym e)

pub shown_put : (r : Result (Unit {0}) AllocError) (cs : List Command) (packet : List ℕ) (c : Command) (payload old mid new : List ℕ) → Some c ≡ showing cs packet → payload ≡ payload_of packet → mid ≡ old ++ c.name.now → OnOk r (new ≡ mid ++ row_shown c.fields.now payload) → OnOk r (new ≡ old ++ command_shown cs packet)
shown_put (Ok done) cs packet c payload old mid new is from put given =
    given ∙ ap (λ (xs : List ℕ). xs ++ row_shown c.fields.now payload) put ∙ append_assoc old c.name.now (row_shown c.fields.now payload)
    ∙ ap (λ (xs : List ℕ). old ++ (c.name.now ++ row_shown c.fields.now xs)) from ∙ ap (λ (xs : List ℕ). old ++ xs) (sym (command_is cs packet (Some c) is))
shown_put (Err e) cs packet c payload old mid new is from put given = tt

pub bytes_put : (r : Result (Unit {0}) AllocError) (cs : List Command) (packet bytes old mid new : List ℕ) → None ≡ showing cs packet → bytes ≡ packet → mid ≡ old ++ codes "packet=" → OnOk r (new ≡ mid ++ hex bytes) → OnOk r (new ≡ old ++ command_shown cs packet)
bytes_put (Ok done) cs packet bytes old mid new is from put given =
    given ∙ ap (λ (xs : List ℕ). xs ++ hex bytes) put ∙ append_assoc old (codes "packet=") (hex bytes)
    ∙ ap (λ (xs : List ℕ). old ++ (codes "packet=" ++ hex xs)) from ∙ ap (λ (xs : List ℕ). old ++ xs) (sym (command_is cs packet None is))
bytes_put (Err e) cs packet bytes old mid new is from put given = tt

-- the payload of a packet has at most 248 bytes
pub payload_room : (packet : List ℕ) → length packet ≤ 256 → length (payload_of packet) ≤ 248
unfolding payload_of
payload_room packet short = by (is_command packet) where
  by : (b : Bool) → length (drop (if b then 8 else 12) packet) ≤ 248
  by true = simp length-drop (omega (arith, short))
  by false = simp length-drop (omega (arith, short))

-- ---- reading back

-- what is known of a command that is shown
pub record IsFound (cs : List Command) (packet : List ℕ) (c : Command) : Type 0 where
  pub good : is_good c ≡ true
  pub shown : shows packet c ≡ true
  pub name : named cs c.name.now ≡ Some c

bytes_same : (xs : List ℕ) → bytes_eq xs xs ≡ true
bytes_same [] = refl
bytes_same (x ∷ xs) = let e : nat_eq x x ≡ true = grind (arith, nat_tests) in rw (e, bytes_same xs) refl

pub same_bytes : (xs ys : List ℕ) → bytes_eq xs ys ≡ true → xs ≡ ys
same_bytes [] [] e = refl
same_bytes [] (y ∷ ys) e = absurd (false≢true e)
same_bytes (x ∷ xs) [] e = absurd (false≢true e)
same_bytes (x ∷ xs) (y ∷ ys) e =
    let both = and_both (nat_eq x y) (bytes_eq xs ys) e in
    let here = both.0 in
    let first : x ≡ y = grind (arith, nat_tests, here) in
    let rest = same_bytes xs ys both.1 in
    cc

distinct_is : (c : Command) (cs : List Command) → are_distinct (c ∷ cs) ≡ true → (list_all (λ d. not (bytes_eq d.name.now c.name.now)) cs ≡ true) × (are_distinct cs ≡ true)
unfolding are_distinct
distinct_is c cs e = and_both (list_all (λ d. not (bytes_eq d.name.now c.name.now)) cs) (are_distinct cs) e

good_cons : (c : Command) (cs : List Command) → are_good (c ∷ cs) ≡ true → (is_good c ≡ true) × (are_good cs ≡ true)
unfolding are_good
good_cons c cs e = and_both (is_good c) (list_all is_good cs) e

some_same : (c d : Command) → (let x : Option Command = Some c in x) ≡ Some d → c ≡ d
some_same c d e = cc

not_false : (b : Bool) → not b ≡ true → b ≡ false
not_false true e = absurd (false≢true e)
not_false false e = refl

bytes_turned : (xs ys : List ℕ) → bytes_eq xs ys ≡ false → bytes_eq ys xs ≡ false
bytes_turned [] [] e = e
bytes_turned [] (y ∷ ys) e = refl
bytes_turned (x ∷ xs) [] e = refl
bytes_turned (x ∷ xs) (y ∷ ys) e = by (nat_eq x y) refl e (bytes_turned xs ys) where
  by : (b : Bool) → nat_eq x y ≡ b → (b && bytes_eq xs ys) ≡ false → (bytes_eq xs ys ≡ false → bytes_eq ys xs ≡ false) → (nat_eq y x && bytes_eq ys xs) ≡ false
  by true s r behind =
      let t : nat_eq y x ≡ true = grind (arith, nat_tests) in
      rw t (behind r)
  by false s r behind =
      let t : nat_eq y x ≡ false = grind (arith, nat_tests) in
      rw t refl

-- a command that is found by a packet has another name than one in front of it
other_name : (first c : Command) (cs : List Command) (packet : List ℕ) → list_all (λ d. not (bytes_eq d.name.now first.name.now)) cs ≡ true → showing cs packet ≡ Some c → bytes_eq c.name.now first.name.now ≡ false
unfolding showing
other_name first c [] packet others e = absurd (none_some e)
other_name first c (d ∷ cs) packet others e =
    let both = and_both (not (bytes_eq d.name.now first.name.now)) (list_all (λ d. not (bytes_eq d.name.now first.name.now)) cs) others in
    by (shows packet d) e (not_false (bytes_eq d.name.now first.name.now) both.0) (other_name first c cs packet both.1) where
      by : (b : Bool) → (if b then Some d else showing cs packet) ≡ Some c → bytes_eq d.name.now first.name.now ≡ false → (showing cs packet ≡ Some c → bytes_eq c.name.now first.name.now ≡ false) → bytes_eq c.name.now first.name.now ≡ false
      by true f here behind = let same = some_same d c f in rw (← same) here
      by false f here behind = behind f

-- the first command that shows a packet is the first of its name
pub found_is : (cs : List Command) (packet : List ℕ) (c : Command) → are_good cs ≡ true → are_distinct cs ≡ true → showing cs packet ≡ Some c → IsFound cs packet c
found_is [] packet c good distinct e = absurd (none_some (sym (showing_nil packet) ∙ e))
found_is (d ∷ cs) packet c good distinct e =
    let goods = good_cons d cs good in
    let names = distinct_is d cs distinct in
    by (shows packet d) refl (sym (showing_cons d cs packet) ∙ e) goods.0 (found_is cs packet c goods.1 names.1) (other_name d c cs packet names.0) where
      by : (b : Bool) → shows packet d ≡ b → (if b then Some d else showing cs packet) ≡ Some c → is_good d ≡ true → (showing cs packet ≡ Some c → IsFound cs packet c) → (showing cs packet ≡ Some c → bytes_eq c.name.now d.name.now ≡ false) → IsFound (d ∷ cs) packet c
      by true s f here behind other =
          let same = some_same d c f in
          record {
            good = rw (← same) here;
            shown = rw (← same) s;
            name = rw (← same) (named_cons d cs d.name.now ∙ rw (bytes_same d.name.now) refl);
          }
      by false s f here behind other =
          let is = behind f in
          let differs = bytes_turned c.name.now d.name.now (other f) in
          record { good = is.good; shown = is.shown; name = named_cons d cs c.name.now ∙ rw differs is.name }
