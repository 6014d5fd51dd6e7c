-- Lemmas on payloads that are shown command by command.
use Rattle.std.proofs.Common.{◌≡◌, ℕ, zero, suc, ◌+◌, ◌-◌, ◌<◌, ◌≤◌, Bool, true, false, List, [], ◌∷◌, ◌++◌, length, take, drop, refl, ap, sym, ◌∙◌, arith, Some, None, Option, append_assoc, length-take, length-drop}
use Rattle.std.specs.Prelude.{◌==◌, ◌&&◌, nat_le, is_none, codes, if◌then◌else◌}
use Rattle.std.proofs.lemmas.Bool.Decides.{nat_tests}
use Rattle.packet_forms.specs.Faults.{fault_of}
use Rattle.packet_forms.specs.Numbers.{be16_at}
use Rattle.packet_forms.specs.declared.packet.PacketFault.{PacketFault}
use Rattle.row_forms.specs.declared.field.Field.{Field}
use Rattle.row_forms.specs.Rows.{is_row}
use Rattle.row_forms.proofs.TextLemmas.{and_both}
use Rattle.telecommands.specs.declared.command.Command.{Command}
use Rattle.table_texts.specs.Fronts.{packet_size, packet_behind, is_command_at}
use Rattle.table_texts.specs.Sequences.{item_size, item_shown, sequence_shown, payload_shown}

-- bytes that begin with fields and a packet
pub record IsCommandAt (fs : List Field) (size : ℕ) (bytes : List ℕ) : Type 0 where
  pub room : size + 8 ≤ length bytes
  pub row : is_row fs (take size bytes) ≡ true
  pub inside : packet_size (drop size bytes) ≤ length (drop size bytes)
  pub packet : fault_of (packet_behind size bytes) ≡ None

no_fault : (o : Option PacketFault) → is_none o ≡ true → o ≡ None
no_fault None e = refl
no_fault (Some f) e = absurd (let wrong : false ≡ true = e in cc)

pub command_is : (fs : List Field) (size : ℕ) (bytes : List ℕ) → is_command_at fs size bytes ≡ true → IsCommandAt fs size bytes
unfolding is_command_at
command_is fs size bytes e =
    let a = and_both _ (is_none (fault_of (packet_behind size bytes))) e in
    let b = and_both _ (nat_le (packet_size (drop size bytes)) (length (drop size bytes))) a.0 in
    let c = and_both (nat_le (size + 8) (length bytes)) (is_row fs (take size bytes)) b.0 in
    record {
      room = grind (arith, nat_tests, c);
      row = c.1;
      inside = grind (arith, nat_tests, b);
      packet = no_fault (fault_of (packet_behind size bytes)) a.1;
    }

pub at_short : (fs : List Field) (size : ℕ) (bytes : List ℕ) → length bytes < size + 8 → is_command_at fs size bytes ≡ false
unfolding is_command_at
at_short fs size bytes short = let e : nat_le (size + 8) (length bytes) ≡ false = grind (arith, nat_tests) in rw e refl

and_false : (a : Bool) → (a && false) ≡ false
and_false true = refl
and_false false = refl

pub at_row : (fs : List Field) (size : ℕ) (bytes : List ℕ) → is_row fs (take size bytes) ≡ false → is_command_at fs size bytes ≡ false
unfolding is_command_at
at_row fs size bytes e = rw (e, and_false (nat_le (size + 8) (length bytes))) refl

pub at_long : (fs : List Field) (size : ℕ) (bytes : List ℕ) → length (drop size bytes) < packet_size (drop size bytes) → is_command_at fs size bytes ≡ false
unfolding is_command_at
at_long fs size bytes long =
    let e : nat_le (packet_size (drop size bytes)) (length (drop size bytes)) ≡ false = grind (arith, nat_tests) in
    rw (e, and_false (nat_le (size + 8) (length bytes) && is_row fs (take size bytes))) refl

pub at_fault : (fs : List Field) (size : ℕ) (bytes : List ℕ) (fault : PacketFault) → fault_of (packet_behind size bytes) ≡ Some fault → is_command_at fs size bytes ≡ false
unfolding is_command_at
at_fault fs size bytes fault e =
    rw (e, and_false (nat_le (size + 8) (length bytes) && is_row fs (take size bytes) && nat_le (packet_size (drop size bytes)) (length (drop size bytes)))) refl

pub at_packet : (fs : List Field) (size : ℕ) (bytes : List ℕ) → size + 8 ≤ length bytes → is_row fs (take size bytes) ≡ true → packet_size (drop size bytes) ≤ length (drop size bytes) → fault_of (packet_behind size bytes) ≡ None → is_command_at fs size bytes ≡ true
unfolding is_command_at
at_packet fs size bytes room row inside packet =
    let a : nat_le (size + 8) (length bytes) ≡ true = grind (arith, nat_tests) in
    let b : nat_le (packet_size (drop size bytes)) (length (drop size bytes)) ≡ true = grind (arith, nat_tests) in
    rw (a, row, b, packet) refl

-- the packet's own size
pub packet_long : (size : ℕ) (bytes : List ℕ) → packet_size (drop size bytes) ≤ length (drop size bytes) → length (packet_behind size bytes) ≡ packet_size (drop size bytes)
packet_long size bytes inside = simp length-take (omega (arith, inside))

item_one : (fs : List Field) (size : ℕ) (bytes : List ℕ) (b : Bool) → is_command_at fs size bytes ≡ b → item_size fs size bytes ≡ (if b then size + packet_size (drop size bytes) else length bytes)
item_one fs size bytes true e = rw e refl
item_one fs size bytes false e = rw e refl

pub item_of_command : (fs : List Field) (size : ℕ) (bytes : List ℕ) → is_command_at fs size bytes ≡ true → item_size fs size bytes ≡ size + packet_size (drop size bytes)
item_of_command fs size bytes e = item_one fs size bytes true e

pub item_of_rest : (fs : List Field) (size : ℕ) (bytes : List ℕ) → is_command_at fs size bytes ≡ false → item_size fs size bytes ≡ length bytes
item_of_rest fs size bytes e = item_one fs size bytes false e

item_bounds : (fs : List Field) (size : ℕ) (bytes : List ℕ) → 0 < length bytes → (b : Bool) → is_command_at fs size bytes ≡ b → (0 < item_size fs size bytes) × (item_size fs size bytes ≤ length bytes)
item_bounds fs size bytes some true e =
    let is = command_is fs size bytes e in
    let size_is = item_of_command fs size bytes e in
    let inside = is.inside in
    let long : length (drop size bytes) ≡ length bytes - size = length-drop size bytes in
    let room = is.room in
    (rw size_is (omega arith), rw size_is (omega (arith, inside, long, room)))
item_bounds fs size bytes some false e = rw (item_of_rest fs size bytes e) (some, omega arith)

pub bounds : (fs : List Field) (size : ℕ) (bytes : List ℕ) → 0 < length bytes → (0 < item_size fs size bytes) × (item_size fs size bytes ≤ length bytes)
bounds fs size bytes some = item_bounds fs size bytes some (is_command_at fs size bytes) refl

-- ---- all of a payload

pub shown_none : (cs : List Command) (fs : List Field) (size fuel : ℕ) → sequence_shown cs fs size fuel [] ≡ codes "end" ++ 10 ∷ []
unfolding sequence_shown
shown_none cs fs size zero = refl
shown_none cs fs size (suc fuel) = refl

pub shown_step : (cs : List Command) (fs : List Field) (size fuel b : ℕ) (bytes : List ℕ) → sequence_shown cs fs size (suc fuel) (b ∷ bytes) ≡ item_shown cs fs size (b ∷ bytes) ++ sequence_shown cs fs size fuel (drop (item_size fs size (b ∷ bytes)) (b ∷ bytes))
unfolding sequence_shown
shown_step cs fs size fuel b bytes = let e : (length (b ∷ bytes) == 0) ≡ false = grind (arith, nat_tests) in rw e refl

-- more fuel than bytes shows nothing else
fuel : (cs : List Command) (fs : List Field) (size f g : ℕ) (bytes : List ℕ) → length bytes ≤ f → length bytes ≤ g → sequence_shown cs fs size f bytes ≡ sequence_shown cs fs size g bytes
fuel cs fs size f g [] a b = shown_none cs fs size f ∙ sym (shown_none cs fs size g)
fuel cs fs size zero g (x ∷ bytes) a b = absurd (omega (arith, a))
fuel cs fs size (suc f) zero (x ∷ bytes) a b = absurd (omega (arith, b))
fuel cs fs size (suc f) (suc g) (x ∷ bytes) a b =
    let long : 0 < length (x ∷ bytes) = omega arith in
    let step = bounds fs size (x ∷ bytes) long in
    let n = item_size fs size (x ∷ bytes) in
    let less : length (drop n (x ∷ bytes)) ≡ length (x ∷ bytes) - n = length-drop n (x ∷ bytes) in
    shown_step cs fs size f x bytes
    ∙ ap (λ (xs : List ℕ). item_shown cs fs size (x ∷ bytes) ++ xs) (fuel cs fs size f g (drop n (x ∷ bytes)) (omega (arith, less, step)) (omega (arith, less, step)))
    ∙ sym (shown_step cs fs size g x bytes)

pub payload_none : (cs : List Command) (fs : List Field) (size : ℕ) (bytes : List ℕ) → (length bytes == 0) ≡ true → payload_shown cs fs size bytes ≡ codes "end" ++ 10 ∷ []
payload_none cs fs size [] e = shown_none cs fs size 0
payload_none cs fs size (b ∷ bytes) e = let none : length (b ∷ bytes) ≡ 0 = grind (arith, nat_tests) in absurd (omega (arith, none))

-- the first line, and those behind it
pub payload_step : (cs : List Command) (fs : List Field) (size : ℕ) (bytes : List ℕ) → 0 < length bytes → payload_shown cs fs size bytes ≡ item_shown cs fs size bytes ++ payload_shown cs fs size (drop (item_size fs size bytes) bytes)
payload_step cs fs size [] some = absurd (omega (arith, some))
payload_step cs fs size (b ∷ bytes) some =
    let n = item_size fs size (b ∷ bytes) in
    let step = bounds fs size (b ∷ bytes) some in
    let less : length (drop n (b ∷ bytes)) ≡ length (b ∷ bytes) - n = length-drop n (b ∷ bytes) in
    shown_step cs fs size (length bytes) b bytes
    ∙ ap (λ (xs : List ℕ). item_shown cs fs size (b ∷ bytes) ++ xs) (fuel cs fs size (length bytes) (length (drop n (b ∷ bytes))) (drop n (b ∷ bytes)) (omega (arith, less, step)) (omega arith))

-- the packet that was cut off
pub packet_is : (size : ℕ) (bytes : List ℕ) (n : ℕ) (rest packet : List ℕ) → n ≡ be16_at (drop size bytes) 4 → rest ≡ drop size bytes → packet ≡ take (n + 7) rest → packet ≡ packet_behind size bytes
packet_is size bytes n rest packet a b c = c ∙ ap (λ (xs : List ℕ). take (n + 7) xs) b ∙ ap (λ (k : ℕ). take (k + 7) (drop size bytes)) a

-- what was shown, and what is left
pub step_put : (old text mid rest : List ℕ) → mid ≡ old ++ text → old ++ (text ++ rest) ≡ mid ++ rest
step_put old text mid rest e = sym (append_assoc old text rest) ∙ ap (λ (xs : List ℕ). xs ++ rest) (sym e)

pub some_left : (bytes : List ℕ) → (length bytes == 0) ≡ false → 0 < length bytes
some_left [] e = absurd (cc)
some_left (b ∷ bytes) e = omega arith
