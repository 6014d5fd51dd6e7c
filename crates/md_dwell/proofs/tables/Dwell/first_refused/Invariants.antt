use Rattle.std.proofs.Common.{◌≡◌, ◌+◌, not, drop}
use Rattle.std.specs.List.{position_from}
use Rattle.md_dwell.specs.Given.{is_given}
use Rattle.md_dwell.specs.declared.tables.DwellEntry.{DwellEntry}
use Rattle.md_dwell.proofs.tables.Dwell.first_refused.Given as goal

-- the entries before this one are given
abbrev pub invariant-loop-i : goal.invariant-loop-i
invariant-loop-i l = position_from (λ (e : DwellEntry). not (is_given l.map e)) 1 l.self.entries ≡ position_from (λ (e : DwellEntry). not (is_given l.map e)) (l.i + 1) (drop l.i l.self.entries)
