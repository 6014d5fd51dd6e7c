use Rattle.std.proofs.Common.{◌≡◌, ◌+◌, drop}
use Rattle.std.specs.Prelude.{◌==◌}
use Rattle.std.specs.List.{position_or_len}
use Rattle.md_dwell.specs.declared.tables.DwellEntry.{DwellEntry}
use Rattle.md_dwell.proofs.tables.list_len.Given as goal

-- no entry before this one has length 0
abbrev pub invariant-loop-i : goal.invariant-loop-i
invariant-loop-i l = l.i + position_or_len (λ (e : DwellEntry). e.len == 0) (drop l.i l.entries) ≡ position_or_len (λ (e : DwellEntry). e.len == 0) l.entries
