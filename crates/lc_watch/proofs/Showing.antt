-- What housekeeping shows.
use Rattle.std.proofs.Common.{◌≡◌, ℕ, ◌+◌, ◌-◌, ◌*◌, ◌^◌, ◌<◌, ◌≤◌, Bool, false, List, length, drop, get_or, sym, ap, ◌∙◌, arith}
use Rattle.std.proofs.Math.Pow.{pow_mono}
use Rattle.std.proofs.lemmas.List.{drop_more, drop_all}
use Rattle.std.proofs.lemmas.List.FromFn.{fill_by_all}
use Rattle.histories.specs.Masks.{bits_of}
use Rattle.histories.proofs.Masks.{twice}
use Rattle.lc_watch.specs.Outcomes.{outcome_at, kept_at, OutcomesStand}
use Rattle.lc_watch.specs.Histories.{Input, Setup}
use Rattle.lc_watch.specs.Firing.{is_active}
use Rattle.lc_watch.specs.Housekeeping.{code_of, codes_of, results_of, active_bits}
use Rattle.lc_watch.specs.State.{PointsStand, point_at}
use Rattle.lc_watch.specs.declared.points.Point.{Point}
use Rattle.lc_watch.specs.declared.instructions.Instruction.{Instruction}
use Rattle.lc_watch.specs.declared.watchpoints.WatchRow.{WatchRow}
use Rattle.lc_watch.specs.declared.outcomes.Outcome.{Outcome}
use Rattle.lc_watch.specs.declared.outcomes.Outcome.TheVariants.{Unseen}

-- no outcome yet, and one more from the end
pub codes_none : (outcomes : List Outcome) → length outcomes ≡ 32 → 0 ≡ codes_of (drop (32 - 0) outcomes)
unfolding codes_of
codes_none outcomes long = sym (ap codes_of (drop_all (32 - 0) outcomes (omega arith)))

pub codes_step : (outcomes : List Outcome) (done codes code : ℕ) → length outcomes ≡ 32 → done < 32 → codes ≡ codes_of (drop (32 - done) outcomes) → code ≡ code_of (kept_at outcomes (32 - 1 - done))
    → 4 * codes + code ≡ codes_of (drop (32 - (done + 1)) outcomes)
unfolding codes_of
codes_step outcomes done codes code long within so_far here =
    let at : 32 - 1 - done ≡ 32 - (done + 1) = omega arith in
    let behind : 32 - (done + 1) + 1 ≡ 32 - done = omega arith in
    let inside : 32 - (done + 1) < length outcomes = omega arith in
    let from = ap codes_of (drop_more outcomes (32 - (done + 1)) Unseen inside) in
    let rest : codes_of (drop (32 - (done + 1) + 1) outcomes) ≡ codes = ap (λ (i : ℕ). codes_of (drop i outcomes)) behind ∙ sym so_far in
    let this : code_of (kept_at outcomes (32 - (done + 1))) ≡ code = ap (λ (i : ℕ). code_of (kept_at outcomes i)) (sym at) ∙ sym here in
    omega (arith, from, rest, this)

pub codes_whole : (outcomes : List Outcome) (done codes : ℕ) → 32 ≤ done → codes ≡ codes_of (drop (32 - done) outcomes) → codes ≡ codes_of outcomes
codes_whole outcomes done codes past is = let none : 32 - done ≡ 0 = omega arith in is ∙ ap (λ (i : ℕ). codes_of (drop i outcomes)) none

-- they fit
pub four_more : (n : ℕ) → 2 ^ (2 * (n + 1)) ≡ 4 * 2 ^ (2 * n)
four_more n =
    let same : 2 * (n + 1) ≡ 2 * n + 1 + 1 = omega arith in
    let first = twice (2 * n + 1) in
    let next = twice (2 * n) in
    ap (λ (k : ℕ). 2 ^ k) same ∙ (let whole : 2 ^ (2 * n + 1 + 1) ≡ 4 * 2 ^ (2 * n) = omega (arith, first, next) in whole)

pub codes_fit : (done : ℕ) → done < 32 → 4 * 2 ^ (2 * done) ≤ 2 ^ 64
codes_fit done few =
    let some : 2 * (done + 1) ≤ 64 = omega arith in
    let power : 2 ^ (2 * (done + 1)) ≤ 2 ^ 64 = pow_mono some in
    let same = four_more done in
    omega (arith, power, same)

-- the outcomes that are kept are those of the watchpoints
pub results_shown : (watch : List WatchRow) (telemetry : List (List ℕ)) (outcomes : List Outcome) → OutcomesStand watch telemetry outcomes → codes_of outcomes ≡ results_of (outcome_at watch telemetry)
unfolding results_of
results_shown watch telemetry outcomes stood = ap codes_of (fill_by_all (outcome_at watch telemetry) outcomes 32 Unseen stood.long stood.each)

-- the bits of the actionpoints
abbrev pub IsAnyBit : ℕ → Bool → Type 0
IsAnyBit k bit = Unit {0}

abbrev pub IsShown : List Point → ℕ → Bool → Type 0
IsShown points k bit = bit ≡ (point_at points k).active

pub active_shown : (setup : Setup) (history : List Input) (orders : List Instruction) (points : List Point) (bits : List Bool) → length bits ≡ 16 → ((k : ℕ) → k < 16 → IsShown points k (get_or bits k false))
    → PointsStand setup history orders points → bits_of bits ≡ active_bits (is_active setup history orders)
unfolding active_bits
active_shown setup history orders points bits long shown stood =
    ap bits_of (fill_by_all (is_active setup history orders) bits 16 false long (λ k within. shown k within ∙ (stood.each k within).active))
