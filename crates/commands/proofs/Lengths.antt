-- The verdict on a command by the length of its payload.
use Rattle.std.proofs.Common.{◌≡◌, ◌<◌, ◌≤◌, ℕ, true, false, List, length, cond, refl, ◌∙◌, arith}
use Rattle.packet_forms.specs.Packets.{payload_of}
use Rattle.commands.specs.Rows.{is_length_allowed}
use Rattle.commands.specs.Verdicts.{Protocol, IsListedCommand, verdict_at, judged_own}
use Rattle.commands.specs.declared.verdicts.CodeRow.{CodeRow}
use Rattle.commands.specs.declared.verdicts.Verdict.TheVariants.{Refused}

module _ {B I E : Type 0} (protocol : Protocol B I E) (basis : B) (orders : List I) (row : CodeRow) (p : List ℕ) where
  by_row : IsListedCommand protocol row p → verdict_at protocol basis orders p ≡ cond (is_length_allowed row (payload_of p)) (judged_own protocol basis orders p) (Refused 3)
  unfolding verdict_at
  by_row is = rw (is.requests, is.commands, is.checked, is.listed) refl

  pub too_short : IsListedCommand protocol row p → length (payload_of p) < row.1 → verdict_at protocol basis orders p ≡ Refused 3
  too_short is short =
      let not_allowed : is_length_allowed row (payload_of p) ≡ false = grind (arith, short) in
      by_row is ∙ rw not_allowed refl

  pub too_long : IsListedCommand protocol row p → row.2 < length (payload_of p) → verdict_at protocol basis orders p ≡ Refused 3
  too_long is long =
      let not_allowed : is_length_allowed row (payload_of p) ≡ false = grind (arith, long) in
      by_row is ∙ rw not_allowed refl

  pub long_enough : IsListedCommand protocol row p → row.1 ≤ length (payload_of p) → length (payload_of p) ≤ row.2 → verdict_at protocol basis orders p ≡ judged_own protocol basis orders p
  long_enough is least most =
      let allowed : is_length_allowed row (payload_of p) ≡ true = grind (arith, least, most) in
      by_row is ∙ rw allowed refl
