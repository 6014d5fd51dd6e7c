-- Lemmas on the events with which commands are answered.
use Rattle.std.proofs.Common.{◌≡◌, ℕ, Bool, true, false, List, [], ◌∷◌, Option, Some, None, refl, arith, subst}
use Rattle.std.specs.Prelude.{◌==◌, if◌then◌else◌}
use Rattle.std.specs.List.{AllByRecursion}
use Rattle.std.proofs.lemmas.Bool.Decides.{nat_tests}
use Rattle.packet_forms.specs.Packets.{message_id, function_code, is_checksum_right, payload_of}
use Rattle.commands.specs.declared.verdicts.CodeRow.{CodeRow}
use Rattle.commands.specs.declared.verdicts.Verdict.TheVariants.{Other, Request, Refused}
use Rattle.commands.specs.Rows.{row_of, is_length_allowed}
use Rattle.commands.specs.Verdicts.{Protocol, judged_by, verdict_by_row, verdict_at}
use Rattle.telemetry_making.specs.Told.{HasRefusal, HasAnswer, HasOwn}

-- what holds where a test holds, and where it doesn't
pub either : {Q : Type 0} (b : Bool) → (b ≡ true → Q) → (b ≡ false → Q) → Q
either true held other = held refl
either false held other = other refl

own_answer : {I E : Type 0} (application : List ℕ) (number : E → ℕ) (o : Option E) (code : ℕ) (instruction : I) → HasOwn application number code o → HasAnswer application code (judged_by number o code instruction)
own_answer application number None code instruction h = h
own_answer application number (Some reason) code instruction h = h

some_row : (d row : CodeRow) → (let x : Option CodeRow = Some d in x) ≡ Some row → d ≡ row
some_row d row e = cc

no_row : (row : CodeRow) → (let x : Option CodeRow = None in x) ≡ Some row → ⊥
no_row row e = absurd (cc)

-- what holds of each code of a table holds of a code that is found in it
pub of_code : (P : ℕ → Type 0) (rows : List CodeRow) (code : ℕ) (row : CodeRow) → AllByRecursion (λ r. P r.0) rows → row_of rows code ≡ Some row → P code
of_code P [] code row all e = absurd (no_row row e)
of_code P (r ∷ rows) code row all e = by (r.0 == code) refl e (of_code P rows code row all.1) where
  by : (b : Bool) → (r.0 == code) ≡ b → (if b then Some r else row_of rows code) ≡ Some row → (row_of rows code ≡ Some row → P code) → P code
  by true t f behind = let same : r.0 ≡ code = grind (arith, nat_tests, t) in subst P same all.0
  by false t f behind = behind f

-- whatever a packet is: the event that answers it stands in the table
pub answered : {B I E : Type 0} (protocol : Protocol B I E) (application : List ℕ) → ((code : ℕ) → HasRefusal application code 1) → ((code : ℕ) → HasRefusal application code 2) → ((code : ℕ) → HasRefusal application code 3) → AllByRecursion (λ r. (basis : B) (orders : List I) (payload : List ℕ) → HasOwn application protocol.number r.0 (protocol.refuses basis orders (protocol.language.decode r.0 payload))) protocol.language.codes → (basis : B) (orders : List I) (p : List ℕ) → HasAnswer application (function_code p) (verdict_at protocol basis orders p)
unfolding verdict_at
answered {B} {I} {E} protocol application h1 h2 h3 all basis orders p =
    by (message_id p == protocol.language.request_id) (message_id p == protocol.language.command_id) (is_checksum_right p) (row_of protocol.language.codes (function_code p)) refl where
      length_is : (b : Bool) (row : CodeRow) → row_of protocol.language.codes (function_code p) ≡ Some row → HasAnswer application (function_code p) (if b then judged_by protocol.number (protocol.refuses basis orders (protocol.language.decode (function_code p) (payload_of p))) (function_code p) (protocol.language.decode (function_code p) (payload_of p)) else Refused 3)
      length_is true row e =
          let own = of_code (λ code. (basis : B) (orders : List I) (payload : List ℕ) → HasOwn application protocol.number code (protocol.refuses basis orders (protocol.language.decode code payload))) protocol.language.codes (function_code p) row all e in
          own_answer application protocol.number (protocol.refuses basis orders (protocol.language.decode (function_code p) (payload_of p))) (function_code p) (protocol.language.decode (function_code p) (payload_of p)) (own basis orders (payload_of p))
      length_is false row e = h3 (function_code p)

      by : (request command right : Bool) (o : Option CodeRow) → row_of protocol.language.codes (function_code p) ≡ o → HasAnswer application (function_code p) (if request then Request else if command then (if right then verdict_by_row protocol basis orders o (function_code p) (payload_of p) else Refused 1) else Other)
      by true command right o e = tt
      by false false right o e = tt
      by false true false o e = h1 (function_code p)
      by false true true None e = h2 (function_code p)
      by false true true (Some row) e = length_is (is_length_allowed row (payload_of p)) row e
