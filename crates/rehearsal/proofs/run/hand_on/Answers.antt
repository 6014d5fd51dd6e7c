use Rattle.std.proofs.Common.{◌++◌, refl, inl, inr, arith, length-append}
use Rattle.rehearsal.proofs.Running.{cut_short, told_alone}
use Rattle.rehearsal.proofs.run.hand_on.Goals as goal

pub returns-in-Ok-clause-hands_on : goal.returns-in-Ok-clause-hands_on
returns-in-Ok-clause-hands_on g c = λ setup earlier later follows number. inl (refl, told_alone _ _ _ _ c.in-Ok.ensures.handed c.in-Ok.ensures.told)

pub returns-in-Err-clause-hands_on : goal.returns-in-Err-clause-hands_on
returns-in-Err-clause-hands_on g c = λ setup earlier later follows number.
    let cut = c.in-Err.ensures.cut setup earlier later follows in
    let all = length-append earlier later in
    inr (cut_short c.at.result setup earlier later (earlier ++ later) c.in-Err.cut.late c.args.report.frames _ _ c.at.ensures number cut.1 (omega (arith, number, all, cut.0, cut.1)) cut.2)
