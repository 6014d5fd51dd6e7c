-- Verdicts where refusals don't look at what was ordered; and the laws of answers.
use Rattle.std.proofs.Common.{◌≡◌, ℕ, List, [], ◌∷◌, ◌++◌, map, Option, Some, None, cond, refl, sym, ap, ◌∙◌, append-nil, append_assoc}
use Rattle.std.specs.Prelude.{◌==◌}
use Rattle.std.specs.List.{fold}
use Rattle.histories.proofs.Along.{joined_more}
use Rattle.packet_forms.specs.Packets.{message_id, function_code, is_checksum_right, payload_of}
use Rattle.commands.specs.Rows.{row_of, is_length_allowed}
use Rattle.commands.specs.Verdicts.{Protocol, orders_in, judged_by, verdict_by_row, verdict_at, verdicts_on}
use Rattle.commands.specs.Answering.{Answers, packet_items, command_items}
use Rattle.commands.specs.declared.verdicts.CodeRow.{CodeRow}
use Rattle.commands.specs.declared.verdicts.Verdict.{Verdict}
use Rattle.commands.specs.declared.verdicts.Verdict.TheVariants.{Other, Request, Refused}

module _ {B I E : Type 0} (protocol : Protocol B I E) (basis : B) (same : (orders : List I) (instruction : I) → protocol.refuses basis orders instruction ≡ protocol.refuses basis [] instruction) where
  by_row : (orders : List I) (o : Option CodeRow) (code : ℕ) (payload : List ℕ) → verdict_by_row protocol basis orders o code payload ≡ verdict_by_row protocol basis [] o code payload
  by_row orders None code payload = refl
  by_row orders (Some row) code payload =
      ap (λ (own : Option E). cond (is_length_allowed row payload) (judged_by protocol.number own code (protocol.language.decode code payload)) (Refused 3)) (same orders (protocol.language.decode code payload))

  at_any : (orders : List I) (p : List ℕ) → verdict_at protocol basis orders p ≡ verdict_at protocol basis [] p
  unfolding verdict_at
  at_any orders p =
      ap (λ (verdict : Verdict I). cond (message_id p == protocol.language.request_id) Request (cond (message_id p == protocol.language.command_id) (cond (is_checksum_right p) verdict (Refused 1)) Other))
      (by_row orders (row_of protocol.language.codes (function_code p)) (function_code p) (payload_of p))

  each_behind : (heard : List (Verdict I)) (packets : List (List ℕ)) → fold (λ (done : List (Verdict I)) (q : List ℕ). done ++ verdict_at protocol basis (orders_in done) q ∷ []) heard packets ≡ heard ++ map (verdict_at protocol basis []) packets
  each_behind heard [] = sym (append-nil heard)
  each_behind heard (p ∷ packets) =
      each_behind (heard ++ verdict_at protocol basis (orders_in heard) p ∷ []) packets
      ∙ append_assoc heard (verdict_at protocol basis (orders_in heard) p ∷ []) (map (verdict_at protocol basis []) packets)
      ∙ ap (λ (verdict : Verdict I). heard ++ verdict ∷ map (verdict_at protocol basis []) packets) (at_any (orders_in heard) p)

pub each_by_itself : {B I E : Type 0} (protocol : Protocol B I E) (basis : B) (packets : List (List ℕ)) → ((orders : List I) (instruction : I) → protocol.refuses basis orders instruction ≡ protocol.refuses basis [] instruction)
    → verdicts_on protocol basis packets ≡ map (verdict_at protocol basis []) packets
unfolding verdicts_on
each_by_itself protocol basis packets same = each_behind protocol basis same [] packets

pub answers_more : {T I : Type 0} (answers : Answers T I) (name : List ℕ) (turn : T) (heard : List (Verdict I)) (verdict : Verdict I)
    → command_items answers name turn (heard ++ verdict ∷ []) ≡ command_items answers name turn heard ++ packet_items answers name turn heard verdict
unfolding command_items
answers_more answers name turn heard verdict = joined_more (packet_items answers name turn) heard verdict
