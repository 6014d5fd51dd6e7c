-- What an application makes of the packets of its command pipe. B is what its refusals are decided by as a wakeup begins, I what a
-- command asks for, E a reason of its own to refuse one.
use Rattle.std.specs.Prelude.{◌≡◌, ℕ, Bool, true, false, ◌==◌, if◌then◌else◌, List, [], ◌∷◌, ◌++◌, filter_map, Option, Some, None}
use Rattle.std.specs.List.{fold}
use Rattle.packet_forms.specs.Packets.{message_id, function_code, is_checksum_right, payload_of}
use Rattle.commands.specs.Rows.{row_of, is_length_allowed}
use Rattle.commands.specs.declared.verdicts.CodeRow.{CodeRow}
use Rattle.commands.specs.declared.verdicts.Verdict.{Verdict}
use Rattle.commands.specs.declared.verdicts.Verdict.TheVariants.{Other, Request, Refused, Accepted}

-- An application's name, the ids of its commands and of the request for its housekeeping, its codes, and what a command of a code asks
-- for with a payload whose length its row allows.
pub record Language (I : Type 0) : Type 0 where
  pub name : List ℕ
  pub command_id : ℕ
  pub request_id : ℕ
  pub codes : List CodeRow
  pub decode : ℕ → List ℕ → I

-- That, the numbers of its own refusals, and which of them meets a command, by what it asks for and what was ordered before it in
-- the wakeup.
pub record Protocol (B I E : Type 0) : Type 0 where
  pub language : Language I
  pub number : E → ℕ
  pub refuses : B → List I → I → Option E

abbrev pub protocol_of : {B I E : Type 0} → Language I → (E → ℕ) → (B → List I → I → Option E) → Protocol B I E
protocol_of language number refuses = record { language = language; number = number; refuses = refuses }

-- What a packet asks for: only an accepted command does.
abbrev pub instruction_in : {I : Type 0} → Verdict I → Option I
instruction_in Other = None
instruction_in Request = None
instruction_in (Refused reason) = None
instruction_in (Accepted code instruction) = Some instruction

-- What was ordered: what the accepted commands asked for, in order.
unfoldable pub orders_in : {I : Type 0} → List (Verdict I) → List I
orders_in verdicts = filter_map instruction_in verdicts

-- The verdict on a command whose payload is as long as its row says.
abbrev pub judged_by : {I E : Type 0} → (E → ℕ) → Option E → ℕ → I → Verdict I
judged_by number None code instruction = Accepted code instruction
judged_by number (Some reason) code instruction = Refused (number reason)

-- The verdict on a command with its checksum right: 2 where its code isn't listed, 3 where its payload has another length, and then
-- its own refusal.
abbrev pub verdict_by_row : {B I E : Type 0} → Protocol B I E → B → List I → Option CodeRow → ℕ → List ℕ → Verdict I
verdict_by_row protocol basis orders None code payload = Refused 2
verdict_by_row protocol basis orders (Some row) code payload =
    if is_length_allowed row payload
    then judged_by protocol.number (protocol.refuses basis orders (protocol.language.decode code payload)) code (protocol.language.decode code payload)
    else Refused 3

-- The verdict on a packet, by what was ordered before it in the wakeup: by its id, then 1 where its checksum isn't right, then by the
-- row of its code.
unfoldable pub verdict_at : {B I E : Type 0} → Protocol B I E → B → List I → List ℕ → Verdict I
verdict_at protocol basis orders p =
    if message_id p == protocol.language.request_id then Request
    else if message_id p == protocol.language.command_id then (
    if is_checksum_right p
    then verdict_by_row protocol basis orders (row_of protocol.language.codes (function_code p)) (function_code p) (payload_of p)
    else Refused 1)
    else Other

-- A command of the application whose checksum is right and whose code has this row.
pub record IsListedCommand {B I E : Type 0} (protocol : Protocol B I E) (row : CodeRow) (p : List ℕ) : Type 0 where
  pub requests : (message_id p == protocol.language.request_id) ≡ false
  pub commands : (message_id p == protocol.language.command_id) ≡ true
  pub checked : is_checksum_right p ≡ true
  pub listed : row_of protocol.language.codes (function_code p) ≡ Some row

-- The verdict on a packet by its own refusals alone.
abbrev pub judged_own : {B I E : Type 0} → Protocol B I E → B → List I → List ℕ → Verdict I
judged_own protocol basis orders p =
    let instruction = protocol.language.decode (function_code p) (payload_of p) in
    judged_by protocol.number (protocol.refuses basis orders instruction) (function_code p) instruction

-- The same by what the packet is by its form: a command whose form is accepted is judged by what it asks for.
abbrev pub verdict_by_form : {B I E : Type 0} → Protocol B I E → B → List I → List ℕ → Verdict (Unit {0}) → Verdict I
verdict_by_form protocol basis orders payload Other = Other
verdict_by_form protocol basis orders payload Request = Request
verdict_by_form protocol basis orders payload (Refused reason) = Refused reason
verdict_by_form protocol basis orders payload (Accepted code form) = judged_by protocol.number (protocol.refuses basis orders (protocol.language.decode code payload)) code (protocol.language.decode code payload)

-- The verdicts on the packets of a wakeup.
unfoldable pub verdicts_on : {B I E : Type 0} → Protocol B I E → B → List (List ℕ) → List (Verdict I)
verdicts_on protocol basis packets = fold (λ heard p. heard ++ verdict_at protocol basis (orders_in heard) p ∷ []) [] packets

-- An accepted command.
abbrev pub is_accepted : {I : Type 0} → Verdict I → Bool
is_accepted Other = false
is_accepted Request = false
is_accepted (Refused reason) = false
is_accepted (Accepted code instruction) = true

-- A refused command.
abbrev pub is_refused : {I : Type 0} → Verdict I → Bool
is_refused Other = false
is_refused Request = false
is_refused (Refused reason) = true
is_refused (Accepted code instruction) = false

-- The accepted command that resets both counts.
abbrev pub is_reset : {I : Type 0} → Verdict I → Bool
is_reset Other = false
is_reset Request = false
is_reset (Refused reason) = false
is_reset (Accepted code instruction) = code == 1
