use Rattle.std.proofs.Common.{◌≡◌, ◌+◌, not, drop}
use Rattle.std.specs.List.{position_from}
use Rattle.cs_slices.specs.Given.{is_given}
use Rattle.cs_slices.specs.declared.segments.Segment.{Segment}
use Rattle.cs_slices.proofs.segments.Segments.first_refused.Given as goal

-- the entries before this one are given
abbrev pub invariant-loop-i : goal.invariant-loop-i
invariant-loop-i l = position_from (λ (s : Segment). not (is_given l.map s)) 1 l.self ≡ position_from (λ (s : Segment). not (is_given l.map s)) (l.i + 1) (drop l.i l.self)
