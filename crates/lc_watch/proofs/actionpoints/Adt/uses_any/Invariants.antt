use Rattle.std.proofs.Common.{◌≡◌, take}
use Rattle.std.specs.List.{list_any}
use Rattle.lc_watch.specs.Actionpoints.{is_used}
use Rattle.lc_watch.proofs.actionpoints.Adt.uses_any.Given as goal

-- whether an entry so far is used
abbrev pub invariant-loop-place : goal.invariant-loop-place
invariant-loop-place l = l.any ≡ list_any is_used (take l.place l.self)
