use Rattle.std.proofs.Common.{◌∙◌, ap, refl}
use Rattle.rehearsal.specs.declared.report.Report.{Report}
use Rattle.vigil.specs.Ends.{exit_number}
use Rattle.vigil.proofs.GivenWords.{ok_map, err_map}
use Rattle.vigil.proofs.program.run_program.Goals as goal

pub returns-clause-promise : goal.returns-clause-promise
returns-clause-promise g c =
    ok_map c.args.given c.rehearse_given.ensures.promise (λ texts promise. record { report = c.rehearse_given.result; is = c.exit_number.ensures; promise = promise })

pub returns-clause-memory : goal.returns-clause-memory
returns-clause-memory g c =
    err_map c.args.given c.rehearse_given.ensures.memory (λ error ends at.
    let early = ends at in
    record {
      is = c.exit_number.ensures ∙ ap (λ (r : Report). exit_number r.status) early.is;
      ends = record { is = refl; unread = early.unread; unwritten = early.unwritten; told = early.told };
    })

pub returns-clause-refused : goal.returns-clause-refused
returns-clause-refused g c =
    err_map c.args.given c.rehearse_given.ensures.refused (λ error ends at.
    let early = ends at in
    record {
      is = c.exit_number.ensures ∙ ap (λ (r : Report). exit_number r.status) early.is;
      ends = record { is = refl; unread = early.unread; unwritten = early.unwritten; told = early.told };
    })
