-- Lemmas on what applications make of telecommands.
use Rattle.std.proofs.Common.{◌≡◌, ℕ, ◌+◌, ◌<◌, ◌≤◌, Bool, true, false, List, ◌∷◌, length, drop, Option, Some, None, refl, ap, sym, ◌∙◌, arith}
use Rattle.std.specs.Prelude.{nat_le, if◌then◌else◌, codes, Result, Ok, Err}
use Rattle.std.proofs.lemmas.Bool.Decides.{nat_tests}
use Rattle.std.proofs.lemmas.List.{get_or-drop}
use Rattle.packet_forms.specs.Built.{command_of}
use Rattle.packet_forms.specs.Numbers.{be16_at, be32_at}
use Rattle.packet_forms.specs.Packets.{message_id, is_command_id, function_code, is_checksum_right, payload_of}
use Rattle.packet_forms.proofs.Forms.{command_reads_back}
use Rattle.row_forms.specs.declared.field.Field.{Field}
use Rattle.row_forms.specs.declared.fault.RowFault.{RowFault}
use Rattle.row_forms.specs.Rows.{behind_key, row_said, row_size}
use Rattle.row_forms.specs.RowNumbers.{numbers_said, numbers_in}
use Rattle.row_forms.proofs.SizeLemmas.{row_sizes}
use Rattle.row_forms.proofs.RowNumberLemmas.{row_numbers}
use Rattle.commands.specs.declared.verdicts.CodeRow.{CodeRow}
use Rattle.commands.specs.Rows.{code_row, row_of, is_allowed, is_length_allowed}
use Rattle.commands.specs.Verdicts.{Language}
use Rattle.telecommands.specs.declared.command.Command.{Command}
use Rattle.telecommands.specs.declared.fault.CommandFault.{CommandFault}
use Rattle.telecommands.specs.declared.fault.CommandFault.TheVariants as faults
use Rattle.telecommands.specs.Commands.{named, sent, named_said, word_said, command_said}
use Rattle.telecommands.specs.Dictionary.{dictionary}
use Rattle.telecommand_decoding.specs.Decoding.{fields_in, fields_of, Decodes}

-- what is asked of a command's row, and of the application's language
pub record IsRow {I : Type 0} (language : Language I) (name : List ℕ) (code : ℕ) (instruction : List ℕ → I) (c : Command) (size : ℕ) : Type 0 where
  pub plain : behind_key (codes "packet") name ≡ None
  pub found : named dictionary name ≡ Some c
  pub id : c.id ≡ language.command_id
  pub number : c.code ≡ code
  pub version : c.id < 8192
  pub kind : is_command_id c.id ≡ true
  pub low : c.code ≤ 127
  pub sized : row_size c.fields.now ≡ Some size
  pub allowed : row_of language.codes code ≡ Some (code_row code size size)
  pub decoded : (p : List ℕ) → language.decode code p ≡ instruction (numbers_in c.fields.now p)

said_cons : (epoch : Option ℕ) (n : ℕ) (w : List ℕ) (ws : List (List ℕ)) → command_said epoch n dictionary (w ∷ ws) ≡ word_said epoch n dictionary (behind_key (codes "packet") w) w ws
unfolding command_said
said_cons epoch n w ws = refl

-- a name that the dictionary has
pub said_by_name : (epoch : Option ℕ) (n : ℕ) (name : List ℕ) (ws : List (List ℕ)) (c : Command) → behind_key (codes "packet") name ≡ None → named dictionary name ≡ Some c → command_said epoch n dictionary (name ∷ ws) ≡ sent c (row_said epoch (n + 1) c.fields.now ws)
said_by_name epoch n name ws c plain found =
    said_cons epoch n name ws ∙ ap (λ (o : Option (List ℕ)). word_said epoch n dictionary o name ws) plain ∙ ap (λ (o : Option Command). named_said epoch n o ws) found

-- a packet that is sent is built of a payload of at most 248 bytes
pub record IsSent (c : Command) (said : Result (List ℕ) RowFault) (packet : List ℕ) : Type 0 where
  pub payload : List ℕ
  pub is : said ≡ Ok payload
  pub few : length payload ≤ 248
  pub built : command_of c.id c.code payload ≡ packet

pub sent_is : (c : Command) (said : Result (List ℕ) RowFault) (packet : List ℕ) → sent c said ≡ Ok packet → IsSent c said packet
sent_is c (Ok payload) packet e = by (nat_le (length payload) 248) refl e where
  by : (b : Bool) → nat_le (length payload) 248 ≡ b → (if b then Ok (command_of c.id c.code payload) else Err faults.Long) ≡ Ok packet → IsSent c (Ok payload) packet
  by true t f = record { payload = payload; is = refl; few = grind (arith, nat_tests); built = cc }
  by false t f = absurd (no f) where
    no : (let x : Result (List ℕ) CommandFault = Err faults.Long in x) ≡ Ok packet → ⊥
    no g = absurd (cc)
sent_is c (Err fault) packet e = absurd (cc)

allowed_is : (code size : ℕ) (payload : List ℕ) → length payload ≡ size → is_length_allowed (code_row code size size) payload ≡ true
allowed_is code size payload e =
    let low : nat_le size (length payload) ≡ true = grind (arith, nat_tests) in
    let high : nat_le (length payload) size ≡ true = grind (arith, nat_tests) in
    rw (low, high) refl

pub found_fields : (name : List ℕ) (c : Command) → named dictionary name ≡ Some c → fields_of name ≡ c.fields.now
unfolding fields_of
found_fields name c e = ap fields_in e

pub some_same : (xs ys : List ℕ) → (let x : Option (List ℕ) = Some xs in x) ≡ Some ys → xs ≡ ys
some_same xs ys e = cc

-- so its words are decoded as the instruction of their numbers
pub decodes : {I : Type 0} (language : Language I) (name : List ℕ) (code : ℕ) (instruction : List ℕ → I) (c : Command) (size : ℕ) → IsRow language name code instruction c size → Decodes language name code instruction
decodes language name code instruction c size is epoch n ws packet e =
    let same = said_by_name epoch n name ws c is.plain is.found in
    let whole = sent_is c (row_said epoch (n + 1) c.fields.now ws) packet (sym same ∙ e) in
    let back = command_reads_back c.id c.code whole.payload is.version is.kind is.low whole.few in
    let long = row_sizes epoch (n + 1) size c.fields.now ws whole.payload is.sized whole.is in
    let payload_is : payload_of packet ≡ whole.payload = ap payload_of (sym whole.built) ∙ back.payload in
    record {
      id = ap message_id (sym whole.built) ∙ back.id ∙ is.id;
      number = ap function_code (sym whole.built) ∙ back.code ∙ is.number;
      checksum = ap is_checksum_right (sym whole.built) ∙ back.checksum;
      allowed = ap (is_allowed (row_of language.codes code)) payload_is ∙ ap (λ (o : Option CodeRow). is_allowed o whole.payload) is.allowed ∙ allowed_is code size whole.payload long;
      decoded = λ ns f.
          let numbers : numbers_in c.fields.now whole.payload ≡ ns = some_same _ _ (sym (row_numbers epoch (n + 1) c.fields.now ws whole.payload whole.is) ∙ ap (λ (fs : List Field). numbers_said epoch fs ws) (sym (found_fields name c is.found)) ∙ f) in
          ap (language.decode code) payload_is ∙ is.decoded whole.payload ∙ ap instruction numbers;
    }

-- numbers behind so many bytes
pub be16_behind : (k i : ℕ) (p : List ℕ) → be16_at (drop k p) i ≡ be16_at p (k + i)
unfolding be16_at
be16_behind k i p =
    let e : k + (i + 1) ≡ k + i + 1 = omega arith in
    rw (get_or-drop k p i 0, get_or-drop k p (i + 1) 0, e) refl

pub be32_behind : (k i : ℕ) (p : List ℕ) → be32_at (drop k p) i ≡ be32_at p (k + i)
unfolding be32_at
be32_behind k i p =
    let e1 : k + (i + 1) ≡ k + i + 1 = omega arith in
    let e2 : k + (i + 2) ≡ k + i + 2 = omega arith in
    let e3 : k + (i + 3) ≡ k + i + 3 = omega arith in
    rw (get_or-drop k p i 0, get_or-drop k p (i + 1) 0, get_or-drop k p (i + 2) 0, get_or-drop k p (i + 3) 0, e1, e2, e3) refl
