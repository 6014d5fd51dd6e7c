-- Lemmas on fields with a telecommand behind them.
use Rattle.std.proofs.Common.{◌≡◌, ℕ, ◌+◌, Bool, true, false, List, [], ◌∷◌, ◌++◌, length, take, drop, map, Option, Some, None, refl, ap, sym, subst, ◌∙◌, arith, append-nil}
use Rattle.std.specs.Prelude.{nat_le, codes, if◌then◌else◌, Result, Ok, Err}
use Rattle.std.specs.List.{list_all}
use Rattle.std.specs.Str.{bytes_eq}
use Rattle.std.proofs.lemmas.Bool.Decides.{nat_tests}
use Rattle.std.proofs.lemmas.List.{length-map}
use Rattle.packet_forms.specs.declared.packet.PacketFault.{PacketFault}
use Rattle.packet_forms.specs.Built.{command_of}
use Rattle.packet_forms.specs.Faults.{fault_of}
use Rattle.packet_forms.specs.Packets.{IsPacket}
use Rattle.packet_forms.proofs.Forms.{packet_of_none, command_reads_back}
use Rattle.row_forms.specs.declared.field.Field.{Field}
use Rattle.row_forms.specs.declared.field.Field.TheVariants.{Value, Zeros, Check}
use Rattle.row_forms.specs.declared.fault.Reason.{Reason}
use Rattle.row_forms.specs.declared.fault.RowFault.{RowFault}
use Rattle.row_forms.specs.Words.{hex_said}
use Rattle.row_forms.specs.Rows.{behind_key, field_said, then_said, row_said}
use Rattle.telecommands.specs.declared.command.Command.{Command}
use Rattle.telecommands.specs.declared.fault.CommandFault.{CommandFault}
use Rattle.telecommands.specs.declared.fault.CommandFault.TheVariants as command_faults
use Rattle.telecommands.specs.Commands.{is_good, are_good, named, sent, named_said, whole_packet, packet_said, word_said, command_said}
use Rattle.telecommands.proofs.CommandLemmas.{and_both, good_is}
use Rattle.table_texts.specs.Fronts.{is_value, Front, then_front, front_said, stored, behind_front}
use Rattle.table_forms.specs.Layouts.{placed_field}
use Rattle.table_meanings.proofs.PlacedLemmas.{row_placed}

-- ---- a telecommand that words say is a packet

by_name : (d c : Command) (ds : List Command) (name : List ℕ) (b : Bool) → is_good d ≡ true → (named ds name ≡ Some c → is_good c ≡ true) → (if b then Some d else named ds name) ≡ Some c → is_good c ≡ true
by_name d c ds name true good later here = let same : d ≡ c = cc in ap is_good (sym same) ∙ good
by_name d c ds name false good later behind = later behind

named_good : (cs : List Command) (name : List ℕ) (c : Command) → are_good cs ≡ true → named cs name ≡ Some c → is_good c ≡ true
unfolding are_good named
named_good [] name c good e = absurd (cc)
named_good (d ∷ ds) name c good e =
    let both = and_both (is_good d) (list_all is_good ds) good in
    by_name d c ds name (bytes_eq d.name.now name) both.0 (named_good ds name c both.1) e

ok_same : (a b : List ℕ) → ◌≡◌ {A = Result (List ℕ) CommandFault} (Ok a) (Ok b) → a ≡ b
ok_same a b e = cc

sent_by : (c : Command) (payload packet : List ℕ) (b : Bool) → nat_le (length payload) 248 ≡ b → is_good c ≡ true → sent c (Ok payload) ≡ Ok packet → IsPacket packet
sent_by c payload packet true few good e =
    let is = good_is c good in
    let built = command_reads_back c.id c.code payload is.version is.kind is.code (grind (arith, nat_tests)) in
    let said : sent c (Ok payload) ≡ Ok (command_of c.id c.code payload) = rw few refl in
    subst IsPacket (ok_same (command_of c.id c.code payload) packet (sym said ∙ e)) built.form
sent_by c payload packet false few good e = absurd (let wrong : ◌≡◌ {A = Result (List ℕ) CommandFault} (Err command_faults.Long) (Ok packet) = sym (rw few refl) ∙ e in cc)

sent_packet : (c : Command) (said : Result (List ℕ) RowFault) (packet : List ℕ) → is_good c ≡ true → sent c said ≡ Ok packet → IsPacket packet
sent_packet c (Ok payload) packet good e = sent_by c payload packet (nat_le (length payload) 248) refl good e
sent_packet c (Err fault) packet good e = absurd (cc)

named_packet : (epoch : Option ℕ) (n : ℕ) (o : Option Command) (ws : List (List ℕ)) (packet : List ℕ) → ((c : Command) → o ≡ Some c → is_good c ≡ true) → named_said epoch n o ws ≡ Ok packet → IsPacket packet
named_packet epoch n None ws packet good e = absurd (cc)
named_packet epoch n (Some c) ws packet good e = sent_packet c (row_said epoch (n + 1) c.fields.now ws) packet (good c refl) e

whole_is : (n : ℕ) (bytes packet : List ℕ) (o : Option PacketFault) → fault_of bytes ≡ o → whole_packet n bytes o ≡ Ok packet → IsPacket packet
whole_is n bytes packet None well e = subst IsPacket (ok_same bytes packet e) (packet_of_none bytes well)
whole_is n bytes packet (Some fault) well e = absurd (cc)

digits_packet : (n : ℕ) (o : Option (List ℕ)) (ws : List (List ℕ)) (packet : List ℕ) → packet_said n o ws ≡ Ok packet → IsPacket packet
digits_packet n None ws packet e = absurd (cc)
digits_packet n (Some bytes) [] packet e = whole_is n bytes packet (fault_of bytes) refl e
digits_packet n (Some bytes) (w ∷ ws) packet e = absurd (cc)

word_packet : (epoch : Option ℕ) (n : ℕ) (cs : List Command) (o : Option (List ℕ)) (name : List ℕ) (ws : List (List ℕ)) (packet : List ℕ) → are_good cs ≡ true → word_said epoch n cs o name ws ≡ Ok packet → IsPacket packet
word_packet epoch n cs (Some digits) name ws packet good e = digits_packet n (hex_said digits) ws packet e
word_packet epoch n cs None name ws packet good e = named_packet epoch n (named cs name) ws packet (λ c found. named_good cs name c good found) e

pub said_packet : (epoch : Option ℕ) (n : ℕ) (cs : List Command) (ws : List (List ℕ)) (packet : List ℕ) → are_good cs ≡ true → command_said epoch n cs ws ≡ Ok packet → IsPacket packet
unfolding command_said
said_packet epoch n cs [] packet good e = absurd (cc)
said_packet epoch n cs (w ∷ ws) packet good e = word_packet epoch n cs (behind_key (codes "packet") w) w ws packet good e

-- ---- the fields in front of it are a row

-- the fields' words say these bytes, and these words are left
pub record IsFrontSaid (epoch : Option ℕ) (n : ℕ) (fs : List Field) (ws : List (List ℕ)) (front : Front) : Type 0 where
  pub said : row_said epoch n fs (take (length fs) ws) ≡ Ok front.bytes
  pub rest : front.rest ≡ drop (length fs) ws

then_parts : (r : Result (List ℕ) RowFault) (s : Result Front RowFault) (front : Front) → then_front r s ≡ Ok front → (bytes : List ℕ) × (more : Front) × (r ≡ Ok bytes) × (s ≡ Ok more) × (bytes ++ more.bytes ≡ front.bytes) × (more.rest ≡ front.rest)
then_parts (Ok bytes) (Ok more) front e = (bytes, more, refl, refl, ap bytes_or e, ap rest_or e) where
  bytes_or : Result Front RowFault → List ℕ
  bytes_or (Ok f) = f.bytes
  bytes_or (Err fault) = []

  rest_or : Result Front RowFault → List (List ℕ)
  rest_or (Ok f) = f.rest
  rest_or (Err fault) = []
then_parts (Ok bytes) (Err fault) front e = absurd (cc)
then_parts (Err fault) s front e = absurd (cc)

-- one word, and what others say behind it
one_then : (n : ℕ) (first : Result (List ℕ) Reason) (said : Result (List ℕ) RowFault) (bytes more : List ℕ) → then_said n first (Ok []) ≡ Ok bytes → said ≡ Ok more → then_said n first said ≡ Ok (bytes ++ more)
one_then n (Ok value) said bytes more e behind =
    let same : value ++ [] ≡ bytes = cc in
    rw behind (ap (λ (xs : List ℕ). Ok (xs ++ more)) (sym (append-nil value) ∙ same))
one_then n (Err reason) said bytes more e behind = absurd (cc)

front_row : (epoch : Option ℕ) (n : ℕ) (fs : List Field) (ws : List (List ℕ)) (front : Front) → list_all is_value fs ≡ true → front_said epoch n fs ws ≡ Ok front → IsFrontSaid epoch n fs ws front
unfolding front_said row_said
front_row epoch n [] ws front values e = record { said = ap Ok (ap bytes_or e); rest = ap rest_or (sym e) } where
  bytes_or : Result Front RowFault → List ℕ
  bytes_or (Ok f) = f.bytes
  bytes_or (Err fault) = []

  rest_or : Result Front RowFault → List (List ℕ)
  rest_or (Ok f) = f.rest
  rest_or (Err fault) = []
front_row epoch n (f ∷ fs) [] front values e = absurd (cc)
front_row epoch n (Value key kind ∷ fs) (w ∷ ws) front values e =
    let parts = then_parts (row_said epoch n (Value key kind ∷ []) (w ∷ [])) (front_said epoch (n + 1) fs ws) front e in
    let later = front_row epoch (n + 1) fs ws parts.1 values parts.3 in
    record {
      said = one_then n (field_said epoch key.now kind w) (row_said epoch (n + 1) fs (take (length fs) ws)) parts.0 parts.1.bytes parts.2 later.said ∙ ap Ok parts.4;
      rest = sym parts.5 ∙ later.rest;
    }
front_row epoch n (Zeros count ∷ fs) (w ∷ ws) front values e = absurd (cc)
front_row epoch n (Check ∷ fs) (w ∷ ws) front values e = absurd (cc)

front_placed : (epoch : Option ℕ) (n : ℕ) (fs : List Field) (ws : List (List ℕ)) → front_said epoch n (map placed_field fs) ws ≡ front_said epoch n fs ws
unfolding front_said
front_placed epoch n [] ws = refl
front_placed epoch n (f ∷ fs) [] = refl
front_placed epoch n (f ∷ fs) (w ∷ ws) =
    ap (λ (r : Result (List ℕ) RowFault). then_front r (front_said epoch (n + 1) (map placed_field fs) ws)) (row_placed epoch n (f ∷ []) (w ∷ []))
    ∙ ap (then_front (row_said epoch n (f ∷ []) (w ∷ []))) (front_placed epoch (n + 1) fs ws)

-- fields and a telecommand, by fields that are known
pub record IsStored (epoch : Option ℕ) (cs : List Command) (known : List Field) (ws : List (List ℕ)) (bytes : List ℕ) : Type 0 where
  pub front : List ℕ
  pub packet : List ℕ
  pub said : row_said epoch 2 known (take (length known) ws) ≡ Ok front
  pub command : command_said epoch (length known + 2) cs (drop (length known) ws) ≡ Ok packet
  pub bytes_are : front ++ packet ≡ bytes

stored_by : (epoch : Option ℕ) (cs : List Command) (known : List Field) (ws : List (List ℕ)) (bytes : List ℕ) (front : Front) (r : Result (List ℕ) CommandFault) → IsFrontSaid epoch 2 known ws front → command_said epoch (length known + 2) cs (drop (length known) ws) ≡ r → stored front.bytes r ≡ Ok bytes → IsStored epoch cs known ws bytes
stored_by epoch cs known ws bytes front (Ok packet) is said e = record {
  front = front.bytes;
  packet = packet;
  said = is.said;
  command = said;
  bytes_are = cc;
}
stored_by epoch cs known ws bytes front (Err fault) is said e = absurd (cc)

behind_is : (epoch : Option ℕ) (cs : List Command) (known : List Field) (ws : List (List ℕ)) (bytes : List ℕ) (r : Result Front RowFault) → list_all is_value known ≡ true → front_said epoch 2 known ws ≡ r → behind_front epoch cs (length known + 2) r ≡ Ok bytes → IsStored epoch cs known ws bytes
behind_is epoch cs known ws bytes (Ok front) values e said =
    let is = front_row epoch 2 known ws front values e in
    let same : command_said epoch (length known + 2) cs front.rest ≡ command_said epoch (length known + 2) cs (drop (length known) ws) = ap (command_said epoch (length known + 2) cs) is.rest in
    stored_by epoch cs known ws bytes front (command_said epoch (length known + 2) cs (drop (length known) ws)) is refl (ap (stored front.bytes) (sym same) ∙ said)
behind_is epoch cs known ws bytes (Err fault) values e said = absurd (cc)

pub stored_is : (epoch : Option ℕ) (cs : List Command) (fs known : List Field) (ws : List (List ℕ)) (bytes : List ℕ) → map placed_field fs ≡ known → list_all is_value known ≡ true → behind_front epoch cs (length fs + 2) (front_said epoch 2 fs ws) ≡ Ok bytes → IsStored epoch cs known ws bytes
stored_is epoch cs fs known ws bytes e values said =
    let long : length fs ≡ length known = sym (length-map fs placed_field) ∙ ap length e in
    let same : front_said epoch 2 fs ws ≡ front_said epoch 2 known ws = sym (front_placed epoch 2 fs ws) ∙ ap (λ (xs : List Field). front_said epoch 2 xs ws) e in
    behind_is epoch cs known ws bytes (front_said epoch 2 known ws) values refl
    (ap (λ (k : ℕ). behind_front epoch cs (k + 2) (front_said epoch 2 known ws)) (sym long) ∙ ap (behind_front epoch cs (length fs + 2)) (sym same) ∙ said)
