-- The two counts of an application, by the verdicts on its packets so far.
use Rattle.std.specs.Prelude.{ℕ, ◌%◌, List, count_by}
use Rattle.std.specs.List.{after_last}
use Rattle.commands.specs.Verdicts.{is_accepted, is_refused, is_reset}
use Rattle.commands.specs.declared.verdicts.Verdict.{Verdict}
use Rattle.bus_pipes.specs.declared.names.Counts.{Counts}

-- The accepted commands since the last accepted reset, that one not counted, modulo 256.
unfoldable pub accepted_count : {I : Type 0} → List (Verdict I) → ℕ
accepted_count verdicts = count_by is_accepted (after_last is_reset verdicts) % 256

-- The refused commands since then, modulo 256.
unfoldable pub error_count : {I : Type 0} → List (Verdict I) → ℕ
error_count verdicts = count_by is_refused (after_last is_reset verdicts) % 256

-- Both counts.
abbrev pub counts_of : {I : Type 0} → List (Verdict I) → Counts
counts_of verdicts = record { accepted = accepted_count verdicts; errors = error_count verdicts }
