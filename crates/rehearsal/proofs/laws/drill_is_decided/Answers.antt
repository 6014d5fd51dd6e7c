use Rattle.std.proofs.Common.{refl}
use Rattle.scenario.specs.Texts.{reading}
use Rattle.rehearsal.specs.Outcome.{drill_of}
use Rattle.rehearsal.proofs.Decided.{not_written, drills_it, drill_ended, drill_unmapped}
use Rattle.rehearsal.proofs.laws.drill_is_decided.Goals as goal

pub returns-clause-unmapped : goal.returns-clause-unmapped
returns-clause-unmapped c = λ r files k file entry run some drill refuses.
    let o = drills_it r files k run some drill in
    drill_unmapped r.report.status r.report files r.crowd (reading (drill_of k)) o.0 o.1 file entry refl some o.2 refuses

pub returns-clause-ended : goal.returns-clause-ended
returns-clause-ended c = λ r files k run some drill given kept.
    let o = drills_it r files k run some drill in
    drill_ended r.report.status r.report files r.crowd (reading (drill_of k)) o.0 o.1 refl some o.2 given (λ failed. not_written r run kept failed)
