-- The search for the first place that takes part, round the ring.
use Rattle.std.proofs.Common.{◌≡◌, ℕ, ◌+◌, ◌%◌, ◌<◌, ◌≤◌, Bool, true, false, cond, length, drop, get_or, refl, ap, ◌∙◌, arith}
use Rattle.std.specs.Prelude.{Some, None, find}
use Rattle.std.proofs.lemmas.List.{drop_more, drop_all}
use Rattle.std.proofs.lemmas.List.FromFn.{get_or-map-range_with_len}
use Rattle.cs_slices.specs.Slices.{ring_from}

ring_long : (place : ℕ) → length (ring_from place) ≡ 32
unfolding ring_from
ring_long place = refl

ring_at : (place k : ℕ) → k < 32 → get_or (ring_from place) k 0 ≡ (place + k) % 32
unfolding ring_from
ring_at place k within = get_or-map-range_with_len (λ (j : ℕ). (place + j) % 32) 0 32 k k 0 within (omega arith)

-- from a place of the ring on
search_more : (p : ℕ → Bool) (place k : ℕ) → k < 32 → find p (drop k (ring_from place)) ≡ cond (p ((place + k) % 32)) (Some ((place + k) % 32)) (find p (drop (k + 1) (ring_from place)))
search_more p place k within =
    let long : length (ring_from place) ≡ 32 = ring_long place in
    ap (find p) (drop_more (ring_from place) k 0 (omega arith))
    ∙ ap (λ (n : ℕ). cond (p n) (Some n) (find p (drop (k + 1) (ring_from place)))) (ring_at place k within)

pub search_here : (p : ℕ → Bool) (place k found : ℕ) → k < 32 → found ≡ (place + k) % 32 → p found ≡ true → find p (drop k (ring_from place)) ≡ Some found
search_here p place k found within at passes = search_more p place k within ∙ rw (← at, passes) refl

pub search_later : (p : ℕ → Bool) (place k next : ℕ) → k < 32 → next ≡ (place + k) % 32 → p next ≡ false → find p (drop k (ring_from place)) ≡ find p (drop (k + 1) (ring_from place))
search_later p place k next within at fails = search_more p place k within ∙ rw (← at, fails) refl

pub search_none : (p : ℕ → Bool) (place k : ℕ) → 32 ≤ k → find p (drop k (ring_from place)) ≡ None
search_none p place k past =
    let long : length (ring_from place) ≡ 32 = ring_long place in
    ap (find p) (drop_all k (ring_from place) (omega arith))
