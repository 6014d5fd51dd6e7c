-- What MD makes gets sequence counts.
use Rattle.std.proofs.Common.{◌≡◌, ◌≤◌, ◌+◌, ℕ, true, List, [], ◌∷◌, refl, subst, arith, inl, inr}
use Rattle.std.specs.List.{AllPass}
use Rattle.std.proofs.lemmas.Bool.{cases_lt}
use Rattle.bus_pipes.specs.Counted.{is_counted, is_item_counted}
use Rattle.bus_pipes.specs.declared.names.Out.{Out}
use Rattle.bus_pipes.specs.declared.names.Out.TheVariants.{Made}
use Rattle.commands.proofs.Answering.{one_passes, telemetry_counted}
use Rattle.md_dwell.specs.Answers.{dwell_packet}

-- the id of a dwell packet
dwell_id : (n : ℕ) → 1 ≤ n → n ≤ 4 → is_counted (0x0890 + n) ≡ true
unfolding is_counted
dwell_id n some few = elim (cases_lt n 2) [
  | inl one ↦ let is : 1 ≡ n = omega arith in subst (λ (k : ℕ). is_counted (0x0890 + k) ≡ true) is refl
  | inr over_one ↦ elim (cases_lt n 3) [
    | inl two ↦ let is : 2 ≡ n = omega arith in subst (λ (k : ℕ). is_counted (0x0890 + k) ≡ true) is refl
    | inr over_two ↦ elim (cases_lt n 4) [
      | inl three ↦ let is : 3 ≡ n = omega arith in subst (λ (k : ℕ). is_counted (0x0890 + k) ≡ true) is refl
      | inr over_three ↦ let is : 4 ≡ n = omega arith in subst (λ (k : ℕ). is_counted (0x0890 + k) ≡ true) is refl
    ]
  ]
]

-- a dwell packet
pub dwell_counted : (time n : ℕ) (bytes : List ℕ) → 1 ≤ n → n ≤ 4 → AllPass is_item_counted (Made (dwell_packet time n bytes) ∷ [])
unfolding dwell_packet
dwell_counted time n bytes some few = one_passes (λ (item : Out). is_item_counted item ≡ true) _ (telemetry_counted (0x0890 + n) time _ (omega arith) (dwell_id n some few))
