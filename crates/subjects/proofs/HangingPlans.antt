-- The plan of a subject that hangs.
use Rattle.std.proofs.Common.{◌≡◌, ℕ, ◌+◌, ◌-◌, ◌<◌, ◌≤◌, cond, List, length, sym, ap, ◌∙◌, arith}
use Rattle.std.specs.List.{range_with_len}
use Rattle.std.proofs.lemmas.List.FromFn.{length-range_with_len, get_or-range_with_len}
use Rattle.std.proofs.lemmas.Bool.{eq-eqb, ne_eqb}
use Rattle.subjects.specs.Plans.{Simulated, IsSimulated, reading_of, cycled, hanging_plan}

-- such a subject at a place
abbrev hanging : List ℕ → ℕ → ℕ → Simulated
hanging name after at = record { name = name; plan = hanging_plan after; at = at }

pub hanging_whole : (name : List ℕ) (after at : ℕ) → at < after → IsSimulated (hanging name after at)
hanging_whole name after at within =
    let len = length-range_with_len 1 after in
    record { back = omega arith; at = omega arith }

pub hanging_reads : (name : List ℕ) (after at : ℕ) → at < after → at + 1 ≡ reading_of (hanging name after at)
hanging_reads name after at within = let read = get_or-range_with_len 1 after at 0 within in omega arith

pub hanging_rises : (name : List ℕ) (after at : ℕ) → at + 1 < after → hanging name after (at + 1) ≡ cycled (hanging name after at)
hanging_rises name after at below =
    let len = length-range_with_len 1 after in
    ap (hanging name after) (sym (ap (λ b. cond b (after - 1) (at + 1)) (ne_eqb (at + 1) (length (range_with_len 1 after)) (λ e. omega arith))))

pub hanging_stays : (name : List ℕ) (after at : ℕ) → at < after → after ≤ at + 1 → hanging name after at ≡ cycled (hanging name after at)
hanging_stays name after at within last =
    let len = length-range_with_len 1 after in
    let there : at ≡ after - 1 = omega arith in
    ap (hanging name after) (there ∙ sym (ap (λ b. cond b (after - 1) (at + 1)) (eq-eqb (at + 1) (length (range_with_len 1 after)) (omega arith))))
