use Rattle.std.proofs.Common.{Bool, [], sym, ap, refl}
use Rattle.fsw_outside.specs.TellingLaws.{told_nothing}
use Rattle.scenario.specs.Texts.{Reading}
use Rattle.scenario.specs.Answers.{answer_at_end}
use Rattle.frame_exec.specs.Beside.{crowd_in}
use Rattle.rehearsal.proofs.Outcomes.{whole_of, is_closed, open_after, tells_some, reading_same, read_failed, refused_none}
use Rattle.rehearsal.proofs.Beginnings.{unread, no_frames, no_log, nothing_reads, none_handed_out}
use Rattle.rehearsal.proofs.Ahead.{ahead_by}
use Rattle.rehearsal.proofs.run.run_scenario.Goals as goal

pub returns-in_default-clause-outcome : goal.returns-in_default-clause-outcome
returns-in_default-clause-outcome g c = λ after tells.
    let o = c.in_default.ensures.content after tells in
    let rose = c.in_default.ensures.cause.failed.strictly (tells_some _ after tells) in
    let end : Bool = is_closed after.rest (g.S.Shelf.faults c.args.shelf.now) (g.S.Shelf.faults c.open.new.self) in
    let is_open = open_after after.rest (g.S.Shelf.faults c.args.shelf.now) (g.S.Shelf.faults c.open.new.self) rose in
    let same = reading_same unread [] end refl is_open in (
      o.0,
      o.1,
      (
        whole_of unread [] end,
        none_handed_out _ (g.S.Shelf.faults c.args.shelf.now) (g.S.Shelf.faults c.open.new.self) _ after.rest c.in_default.ensures.is_open,
        ahead_by c.at.result _ (whole_of unread [] end) c.at.ensures tt,
        told_nothing _ _ (λ held. read_failed c.args.files.now (crowd_in g.C.Subject.seen c.args.crowd.now) c.at.result 0 unread (whole_of unread [] end) [] held held c.at.ensures (refused_none c.args.files.now) same (sym (ap (λ (r : Reading). r.items) nothing_reads)) (sym (ap (λ (r : Reading). answer_at_end r.ending) nothing_reads)) (no_frames [] refl) (no_log c.args.files.now (crowd_in g.C.Subject.seen c.args.crowd.now) [] held refl)),
      ),
    )
