-- A subject goes through its plan.
use Rattle.std.proofs.Common.{◌≡◌, ℕ, zero, suc, ◌+◌, ◌<◌, cond, List, length, refl, sym, ap, ◌∙◌, arith}
use Rattle.std.proofs.lemmas.Bool.{eq-eqb, ne_eqb}
use Rattle.subjects.specs.Plans.{Plan, Simulated, cycled, cycled_times, starting, GoesRound}

-- a subject of a name and a plan at a place
abbrev placed : List ℕ → Plan → ℕ → Simulated
placed name plan at = record { name = name; plan = plan; at = at }

moves_on : (name : List ℕ) (plan : Plan) (at : ℕ) → suc at < length plan.values → cycled (placed name plan at) ≡ placed name plan (suc at)
moves_on name plan at below =
    ap (placed name plan) (ap (λ b. cond b plan.back (at + 1)) (ne_eqb (at + 1) (length plan.values) (λ e. omega arith)) ∙ omega arith)

goes_back : (name : List ℕ) (plan : Plan) (at : ℕ) → length plan.values ≡ suc at → cycled (placed name plan at) ≡ placed name plan plan.back
goes_back name plan at last =
    ap (placed name plan) (ap (λ b. cond b plan.back (at + 1)) (eq-eqb (at + 1) (length plan.values) (omega arith)))

in_turn : (name : List ℕ) (plan : Plan) (n : ℕ) → n < length plan.values → cycled_times n (starting name plan) ≡ placed name plan n
in_turn name plan zero below = refl
in_turn name plan (suc n) below = ap cycled (in_turn name plan n (omega arith)) ∙ moves_on name plan n below

again : (name : List ℕ) (plan : Plan) (count : ℕ) → length plan.values ≡ count → plan.back < length plan.values → cycled_times count (starting name plan) ≡ placed name plan plan.back
again name plan zero is back = absurd (omega arith)
again name plan (suc n) is back = ap cycled (in_turn name plan n (omega arith)) ∙ goes_back name plan n is

pub goes_round : GoesRound
goes_round name plan back =
    (in_turn name plan, again name plan (length plan.values) refl back ∙ sym (in_turn name plan plan.back back))
