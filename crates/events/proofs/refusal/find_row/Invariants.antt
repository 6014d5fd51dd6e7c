use Rattle.std.proofs.Common.{◌≡◌, drop}
use Rattle.events.specs.Refusals.{reason_row}
use Rattle.events.proofs.refusal.find_row.Given as goal

abbrev pub invariant-loop-refusal : goal.invariant-loop-refusal
invariant-loop-refusal l = reason_row l.refusals l.application l.code l.number ≡ reason_row (drop l.refusal-index l.refusals) l.application l.code l.number
