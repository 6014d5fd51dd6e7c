use Rattle.md_dwell.proofs.Rounds.{round_due, round_not_due}
use Rattle.md_dwell.proofs.laws.rounds_end_by_number.Goals as goal

pub returns : goal.returns
returns c = record { ends = λ list since r images. round_due list since images r; none = round_not_due }
