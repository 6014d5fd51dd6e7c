use Rattle.std.proofs.Common.{◌≡◌, ◌<◌, ◌≤◌, ◌-◌, ℕ, length, get_or}
use Rattle.hs_actions.proofs.state.cool.Given as goal

-- those so far went down, and the others are what they were
abbrev pub invariant-loop-place : goal.invariant-loop-place
invariant-loop-place l = record {
  cooled : (k : ℕ) → k < l.place → get_or l.cooldowns k 0 ≡ get_or l.fn.cooldowns k 0 - 1;
  others : (k : ℕ) → l.place ≤ k → get_or l.cooldowns k 0 ≡ get_or l.fn.cooldowns k 0;
  size : length l.cooldowns ≡ 8;
}
