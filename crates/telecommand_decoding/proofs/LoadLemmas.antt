-- Lemmas on the load of Memory Manager, whose payload has a check and as many bytes as its words say.
use Rattle.std.proofs.Common.{◌≡◌, ℕ, ◌+◌, ◌*◌, ◌/◌, ◌%◌, ◌<◌, Bool, true, false, ◌&&◌, List, [], ◌∷◌, ◌++◌, length, Option, Some, None, refl, ap, sym, ◌∙◌, arith, subst}
use Rattle.std.specs.Prelude.{◌==◌, nat_le, if◌then◌else◌, codes, slice_index, bit_xor, Ok, flat_map}
use Rattle.std.specs.List.{fold}
use Rattle.std.proofs.lemmas.Nat.{xor_lt}
use Rattle.std.proofs.lemmas.Bool.Decides.{nat_tests}
use Rattle.packet_forms.specs.Crc.{crc_of, crc_bit, low_bits}
use Rattle.packet_forms.specs.MessageIds.{mm_command}
use Rattle.packet_forms.specs.Numbers.{be16_at, be32_at, be16_bytes}
use Rattle.packet_forms.specs.Packets.{message_id, function_code, is_checksum_right, payload_of}
use Rattle.packet_forms.proofs.Forms.{command_reads_back}
use Rattle.row_forms.specs.declared.field.Field.{Field}
use Rattle.row_forms.specs.declared.field.Field.TheVariants.{Check}
use Rattle.row_forms.specs.declared.field.Kind.TheVariants.{Block}
use Rattle.row_forms.specs.Rows.{behind_key, field_said, then_said, with_check, row_said}
use Rattle.row_forms.specs.RowNumbers.{numbers_said, numbers_in}
use Rattle.row_forms.specs.Worked.{field}
use Rattle.row_forms.proofs.SizeLemmas.{field_size}
use Rattle.row_forms.proofs.RowNumberLemmas.{row_numbers, then_parts, check_parts}
use Rattle.commands.specs.Rows.{row_of, is_allowed}
use Rattle.mm_core.specs.Messages.{mm_codes}
use Rattle.mm_core.specs.Instructions.{instruction_of}
use Rattle.mm_core.specs.Decoded.{to_load}
use Rattle.telecommands.specs.declared.command.Command.{Command}
use Rattle.telecommands.specs.Commands.{named, command_said}
use Rattle.telecommands.specs.Dictionary.{dictionary, hs_rows, mm_rows, md_rows, cs_rows, sc_rows, lc_rows, row, address}
use Rattle.telecommand_decoding.specs.Decoding.{fields_of}
use Rattle.telecommand_decoding.specs.Loads.{IsLoadDecoded}
use Rattle.telecommand_decoding.proofs.DecodingLemmas.{said_by_name, found_fields, some_same, sent_is}

-- ---- a check has 16 bits

bit_small : (c b : ℕ) → c < 65536 → crc_bit c b < 65536
unfolding crc_bit
bit_small c b small = by ((c + b) % 2 == 1) where
  by : (t : Bool) → (if t then bit_xor (c / 2) 0xA001 else c / 2) < 65536
  by true = xor_lt 16 (c / 2) 0xA001 (omega (arith, small)) (omega arith)
  by false = omega (arith, small)

bits_small : (bits : List ℕ) (c : ℕ) → c < 65536 → fold crc_bit c bits < 65536
bits_small [] c small = small
bits_small (b ∷ bits) c small = bits_small bits (crc_bit c b) (bit_small c b small)

check_small : (bytes : List ℕ) → crc_of 0 bytes < 65536
unfolding crc_of
check_small bytes = bits_small (flat_map (low_bits 8) bytes) 0 (omega arith)

-- ---- the payload of a load

abbrev load_fields : List Field
load_fields = field (codes "address") address ∷ Check ∷ field (codes "bytes") Block ∷ []

abbrev load_row : Command
load_row = row (codes "mm.load") mm_command 4 load_fields

row_value : (epoch : Option ℕ) (n : ℕ) (w : List ℕ) (ws : List (List ℕ)) → row_said epoch n load_fields (w ∷ ws) ≡ then_said n (field_said epoch (codes "address") address w) (row_said epoch (n + 1) (Check ∷ field (codes "bytes") Block ∷ []) ws)
unfolding row_said
row_value epoch n w ws = refl

no_row : (epoch : Option ℕ) (n : ℕ) (payload : List ℕ) → row_said epoch n load_fields [] ≡ Ok payload → ⊥
unfolding row_said
no_row epoch n payload e = absurd (cc)

row_check : (epoch : Option ℕ) (n : ℕ) (fs : List Field) (ws : List (List ℕ)) → row_said epoch n (Check ∷ fs) ws ≡ with_check (row_said epoch n fs ws)
unfolding row_said
row_check epoch n fs [] = refl
row_check epoch n fs (w ∷ ws) = refl

-- an address, the check of the bytes, and the bytes
record IsLoadPayload (payload : List ℕ) : Type 0 where
  part : List ℕ
  decoded : instruction_of 4 payload ≡ to_load (be32_at payload 0) (crc_of 0 part) part
  size : length payload ≡ 6 + length part

shape : (value part : List ℕ) → length value ≡ 4 → IsLoadPayload (value ++ (be16_bytes (crc_of 0 part) ++ part))
unfolding instruction_of be16_at be16_bytes
shape [] part e = absurd (omega (arith, e))
shape (a ∷ []) part e = absurd (omega (arith, e))
shape (a ∷ b ∷ []) part e = absurd (omega (arith, e))
shape (a ∷ b ∷ c ∷ []) part e = absurd (omega (arith, e))
shape (a ∷ b ∷ c ∷ d ∷ []) part e =
    let small = check_small part in
    let whole : crc_of 0 part / 256 % 256 * 256 + crc_of 0 part % 256 ≡ crc_of 0 part = omega (arith, small) in
    record {
      part = part;
      decoded = ap (λ (n : ℕ). to_load (be32_at (a ∷ b ∷ c ∷ d ∷ (be16_bytes (crc_of 0 part) ++ part)) 0) n part) whole;
      size = omega arith;
    }
shape (a ∷ b ∷ c ∷ d ∷ x ∷ value) part e = absurd (omega (arith, e))

load_payload : (epoch : Option ℕ) (n : ℕ) (ws : List (List ℕ)) (payload : List ℕ) → row_said epoch n load_fields ws ≡ Ok payload → IsLoadPayload payload
load_payload epoch n [] payload e = absurd (no_row epoch n payload e)
load_payload epoch n (w ∷ ws) payload e =
    let parts = then_parts n payload (field_said epoch (codes "address") address w) (row_said epoch (n + 1) (Check ∷ field (codes "bytes") Block ∷ []) ws) (sym (row_value epoch n w ws) ∙ e) in
    let checked = check_parts parts.1 (row_said epoch (n + 1) (field (codes "bytes") Block ∷ []) ws) (sym (row_check epoch (n + 1) (field (codes "bytes") Block ∷ []) ws) ∙ parts.3) in
    let size = field_size epoch (codes "address") address w parts.0 4 refl parts.2 in
    let whole : parts.0 ++ (be16_bytes (crc_of 0 checked.0) ++ checked.0) ≡ payload = ap (λ (xs : List ℕ). parts.0 ++ xs) checked.2 ∙ parts.4 in
    let P : List ℕ → Type 0 = λ xs. IsLoadPayload xs in
    subst P whole (shape parts.0 checked.0 size)

load_found : named dictionary (codes "mm.load") ≡ Some load_row
unfolding named dictionary hs_rows mm_rows md_rows cs_rows sc_rows lc_rows
load_found = refl

load_plain : behind_key (codes "packet") (codes "mm.load") ≡ None
unfolding behind_key
load_plain = refl

load_codes : (payload : List ℕ) → is_allowed (row_of mm_codes 4) payload ≡ (nat_le 7 (length payload) && nat_le (length payload) 206)
unfolding mm_codes
load_codes payload = refl

room : (n m : ℕ) → m ≡ 6 + n → (nat_le 7 m && nat_le m 206) ≡ (nat_le 1 n && nat_le n 200)
room n m e =
    let low : nat_le 7 m ≡ nat_le 1 n = grind (arith, nat_tests) in
    let high : nat_le m 206 ≡ nat_le n 200 = grind (arith, nat_tests) in
    rw (low, high) refl

load_numbers : (payload : List ℕ) → numbers_in load_fields payload ≡ be32_at payload 0 ∷ []
unfolding numbers_in
load_numbers payload = refl

-- what a load's words say is decoded as that load
pub load_decoded : (epoch : Option ℕ) (n : ℕ) (ws : List (List ℕ)) (packet : List ℕ) → command_said epoch n dictionary (codes "mm.load" ∷ ws) ≡ Ok packet → IsLoadDecoded (numbers_said epoch (fields_of (codes "mm.load")) ws) packet
load_decoded epoch n ws packet e =
    let whole = sent_is load_row (row_said epoch (n + 1) load_fields ws) packet (sym (said_by_name epoch n (codes "mm.load") ws load_row load_plain load_found) ∙ e) in
    let back = command_reads_back mm_command 4 whole.payload (omega arith) refl (omega arith) whole.few in
    let is = load_payload epoch (n + 1) ws whole.payload whole.is in
    let payload_is : payload_of packet ≡ whole.payload = ap payload_of (sym whole.built) ∙ back.payload in
    record {
      id = ap message_id (sym whole.built) ∙ back.id;
      number = ap function_code (sym whole.built) ∙ back.code;
      checksum = ap is_checksum_right (sym whole.built) ∙ back.checksum;
      part = is.part;
      allowed = ap (is_allowed (row_of mm_codes 4)) payload_is ∙ load_codes whole.payload ∙ room (length is.part) (length whole.payload) is.size;
      decoded = λ ns f.
          let numbers : be32_at whole.payload 0 ∷ [] ≡ ns = some_same _ _ (ap Some (sym (load_numbers whole.payload)) ∙ sym (row_numbers epoch (n + 1) load_fields ws whole.payload whole.is) ∙ ap (λ (fs : List Field). numbers_said epoch fs ws) (sym (found_fields (codes "mm.load") load_row load_found)) ∙ f) in
          ap (instruction_of 4) payload_is ∙ is.decoded ∙ ap (λ (xs : List ℕ). to_load (slice_index xs 0) (crc_of 0 is.part) is.part) numbers;
    }
