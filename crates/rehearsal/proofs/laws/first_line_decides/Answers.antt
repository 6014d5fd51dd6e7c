use Rattle.std.proofs.Common.{refl}
use Rattle.scenario.specs.Texts.{reading}
use Rattle.rehearsal.proofs.Decided.{unread, refused, faulty, reads_it, no_cut, gives_none, not_written, written_at, by_ended, by_bad, by_open, by_unmapped}
use Rattle.rehearsal.proofs.laws.first_line_decides.Goals as goal

pub returns-clause-unread : goal.returns-clause-unread
returns-clause-unread c = unread

pub returns-clause-refused : goal.returns-clause-refused
returns-clause-refused c = refused

pub returns-clause-faulty : goal.returns-clause-faulty
returns-clause-faulty c = λ r fault run some is. faulty r is.files fault run some is.well is.taken is.fails

pub returns-clause-headless : goal.returns-clause-headless
returns-clause-headless c = λ r files text line reason run some reads none bad.
    let o = reads_it r files text run some reads in
    by_bad r.report.status r.report files r.crowd (reading text) o.0 o.1 line reason refl some o.2 (gives_none files (reading text) none) (λ _ cut. no_cut r.report.frames files r.crowd (reading text) o.0 o.1 none cut) bad

pub returns-clause-headless_open : goal.returns-clause-headless_open
returns-clause-headless_open c = λ r files text run some reads none is_open.
    let o = reads_it r files text run some reads in
    by_open r.report.status r.report files r.crowd (reading text) o.0 o.1 refl some o.2 (gives_none files (reading text) none) (λ _ cut. no_cut r.report.frames files r.crowd (reading text) o.0 o.1 none cut) is_open

pub returns-clause-unmapped : goal.returns-clause-unmapped
returns-clause-unmapped c = λ r files text file entry run some reads refuses.
    let o = reads_it r files text run some reads in
    by_unmapped r.report.status r.report files r.crowd (reading text) o.0 o.1 file entry refl some o.2 refuses

pub returns-clause-unwritten : goal.returns-clause-unwritten
returns-clause-unwritten c = λ r run rose. written_at r.report.status r.report r.wrote_before r.wrote_now refl run.wrote_well rose

pub returns-clause-ended : goal.returns-clause-ended
returns-clause-ended c = λ r files text run some runs ended.
    let o = reads_it r files text run some runs.reads in
    by_ended r.report.status r.report files r.crowd (reading text) o.0 o.1 refl some o.2 runs.given (λ failed _. not_written r run runs.written failed) ended

pub returns-clause-bad : goal.returns-clause-bad
returns-clause-bad c = λ r files text line reason run some runs bad.
    let o = reads_it r files text run some runs.reads in
    by_bad r.report.status r.report files r.crowd (reading text) o.0 o.1 line reason refl some o.2 runs.given (λ failed _. not_written r run runs.written failed) bad

pub returns-clause-cut_off : goal.returns-clause-cut_off
returns-clause-cut_off c = λ r files text run some runs is_open.
    let o = reads_it r files text run some runs.reads in
    by_open r.report.status r.report files r.crowd (reading text) o.0 o.1 refl some o.2 runs.given (λ failed _. not_written r run runs.written failed) is_open
