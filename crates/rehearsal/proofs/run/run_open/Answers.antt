use Rattle.std.proofs.Common.{ℕ, ◌<◌, Bool, false, [], ◌∷◌, length, sym, ◌∙◌, subst, refl, arith}
use Rattle.fsw_outside.specs.TellingLaws.{told_then, told_map, told_nothing}
use Rattle.scenario.specs.Texts.{Given, reading}
use Rattle.scenario.specs.Standing.{header_in}
use Rattle.scenario.specs.TextLaws.{given_first}
use Rattle.rehearsal.specs.Outcome.{IsTextOf}
use Rattle.rehearsal.proofs.TextFacts.{no_first_frame}
use Rattle.rehearsal.proofs.Endings.{not_open_at_end, not_open_at_bad}
use Rattle.frame_exec.specs.Beside.{crowd_in}
use Rattle.rehearsal.proofs.Outcomes.{whole_of, is_closed, text_of, closed_same, open_after, tells_some, reading_same, reading_whole, items_whole, refused_none, read_failed, done, refused_at}
use Rattle.rehearsal.proofs.Beginnings.{unread, begins, read_none, no_frames, no_log, header_refuses, header_refuses_whole, not_opened, not_opened_ahead, out_of_memory, opened, header_is_there}
use Rattle.rehearsal.proofs.Ahead.{ahead_by, bad_ahead, header_ahead, nothing_ahead}
use Rattle.rehearsal.proofs.run.run_open.Goals as goal

pub returns-in_default-clause-outcome : goal.returns-in_default-clause-outcome
returns-in_default-clause-outcome g c = told_nothing _ _ (λ start.
    let end : Bool = is_closed start.rest (g.S.Source.faults c.args.source.now) (g.S.Source.faults c.args.source.now) in (
      whole_of unread [] end,
      text_of unread [] start start (g.S.Source.faults c.args.source.now) (g.S.Source.faults c.args.source.now) (read_none (record { pending = []; total = 0; ended = false }) start refl),
      nothing_ahead c.at.result end c.at.ensures,
      told_nothing _ _ (λ held. out_of_memory c.args.files.now (crowd_in g.C.Subject.seen c.args.crowd.now) c.at.result (whole_of unread [] end) held c.at.ensures),
    ))

pub unreachable-requires : goal.unreachable-requires
unreachable-requires g c =
    let a = c.in-Frame.ensures.reads unread [] (begins c.in-Ok.reader c.new-feed.result c.in-Ok.ensures.stands c.new-feed.ensures) in
    no_first_frame c.read_on.new.reader a.0 _ a.1.0.stands

pub run_frames-requires-clause-holds : goal.run_frames-requires-clause-holds
run_frames-requires-clause-holds g c = λ _ _.
    let a = c.in-Header.ensures.reads unread [] (begins c.in-Ok.reader c.new-feed.result c.in-Ok.ensures.stands c.new-feed.ensures) in
    let item : Given = header_in c.read_on.new.reader in
    let some : 0 < length (item ∷ []) = omega arith in
    let head = c.header.ensures a.0 (item ∷ []) a.1.0.stands some in
    let begun = opened c.args.files.now c.in-Ok-open.bench item c.header.result.now.epoch c.header.result.now.map head.0 c.in-Ok-open.ensures.follows c.in-Ok-open.ensures.stands.waits head.1 c.in-Ok-open.ensures.refused in
    (c.args.files.now, a.0, item ∷ [], a.1.0, begun)

pub returns-in-Dry-clause-outcome : goal.returns-in-Dry-clause-outcome
returns-in-Dry-clause-outcome g c = λ after tells.
    let a = c.in-Dry.ensures.reads unread [] (begins c.in-Ok.reader c.new-feed.result c.in-Ok.ensures.stands c.new-feed.ensures) in
    let first = a.2 after tells in
    let rose = (c.in-Dry.ensures.failed refl).strictly (tells_some _ after tells) in
    let end : Bool = is_closed after.rest (g.S.Source.faults c.args.source.now) (g.S.Source.faults c.read_on.new.source) in
    let is_open = open_after after.rest (g.S.Source.faults c.args.source.now) (g.S.Source.faults c.read_on.new.source) rose in
    let same = reading_same a.0 c.read_on.new.feed.pending end a.1.4 (is_open ∙ sym a.1.3) in (
      first.0,
      first.1,
      (
        whole_of a.0 c.read_on.new.feed.pending end,
        text_of a.0 c.read_on.new.feed.pending first.0 after (g.S.Source.faults c.args.source.now) (g.S.Source.faults c.read_on.new.source) (first.2 first.0 (read_none c.new-feed.result first.0 c.new-feed.ensures)),
        ahead_by c.at-in-Dry.result _ (whole_of a.0 c.read_on.new.feed.pending end) c.at-in-Dry.ensures tt,
        told_nothing _ _ (λ held. read_failed c.args.files.now (crowd_in g.C.Subject.seen c.args.crowd.now) c.at-in-Dry.result 0 a.0 (whole_of a.0 c.read_on.new.feed.pending end) [] held held c.at-in-Dry.ensures (refused_none c.args.files.now) same a.1.1 a.1.2 (no_frames [] refl) (no_log c.args.files.now (crowd_in g.C.Subject.seen c.args.crowd.now) [] held refl)),
      ),
    )

pub returns-in-End-clause-outcome : goal.returns-in-End-clause-outcome
returns-in-End-clause-outcome g c =
    let a = c.in-End.ensures.reads unread [] (begins c.in-Ok.reader c.new-feed.result c.in-Ok.ensures.stands c.new-feed.ensures) in
    told_map a.2 (λ start after first.
    let read = first start (read_none c.new-feed.result start c.new-feed.ensures) in
    let end : Bool = is_closed after.rest (g.S.Source.faults c.args.source.now) (g.S.Source.faults c.read_on.new.source) in
    let closed = closed_same c.read_on.new.reader c.read_on.new.feed a.0 [] start after (g.S.Source.faults c.args.source.now) (g.S.Source.faults c.read_on.new.source) a.1.0 read (c.in-End.ensures.well (λ other. cc)) in
    let same = reading_whole a.0 c.read_on.new.feed.pending end closed (not_open_at_end (reading a.0).ending a.1.2) in (
      whole_of a.0 c.read_on.new.feed.pending end,
      text_of a.0 c.read_on.new.feed.pending start after (g.S.Source.faults c.args.source.now) (g.S.Source.faults c.read_on.new.source) read,
      ahead_by c.at-in-End.result _ (whole_of a.0 c.read_on.new.feed.pending end) c.at-in-End.ensures tt,
      told_nothing _ _ (λ held. done c.args.files.now (crowd_in g.C.Subject.seen c.args.crowd.now) c.at-in-End.result 0 a.0 (whole_of a.0 c.read_on.new.feed.pending end) [] held held c.at-in-End.ensures (refused_none c.args.files.now) same a.1.1 a.1.2 (no_frames [] refl) (no_log c.args.files.now (crowd_in g.C.Subject.seen c.args.crowd.now) [] held refl)),
    ))

pub returns-in-Bad-clause-outcome : goal.returns-in-Bad-clause-outcome
returns-in-Bad-clause-outcome g c =
    let a = c.in-Bad.ensures.reads unread [] (begins c.in-Ok.reader c.new-feed.result c.in-Ok.ensures.stands c.new-feed.ensures) in
    told_map a.2 (λ start after first.
    let read = first start (read_none c.new-feed.result start c.new-feed.ensures) in
    let end : Bool = is_closed after.rest (g.S.Source.faults c.args.source.now) (g.S.Source.faults c.read_on.new.source) in
    let closed = closed_same c.read_on.new.reader c.read_on.new.feed a.0 [] start after (g.S.Source.faults c.args.source.now) (g.S.Source.faults c.read_on.new.source) a.1.0 read (c.in-Bad.ensures.well (λ other. cc)) in
    let same = reading_whole a.0 c.read_on.new.feed.pending end closed (not_open_at_bad (reading a.0).ending c.in-Bad.line c.in-Bad.reason a.1.2) in (
      whole_of a.0 c.read_on.new.feed.pending end,
      text_of a.0 c.read_on.new.feed.pending start after (g.S.Source.faults c.args.source.now) (g.S.Source.faults c.read_on.new.source) read,
      ahead_by c.refused.result _ (whole_of a.0 c.read_on.new.feed.pending end) c.refused.ensures (bad_ahead a.0 (whole_of a.0 c.read_on.new.feed.pending end) [] c.read_on.new.feed.pending same a.1.1 refl a.1.0.few a.1.3),
      told_nothing _ _ (λ held. refused_at c.args.files.now (crowd_in g.C.Subject.seen c.args.crowd.now) c.refused.result c.in-Bad.line c.in-Bad.reason 0 a.0 (whole_of a.0 c.read_on.new.feed.pending end) [] held held c.refused.ensures (refused_none c.args.files.now) same a.1.1 a.1.2 (no_frames [] refl) (no_log c.args.files.now (crowd_in g.C.Subject.seen c.args.crowd.now) [] held refl)),
    ))

pub returns-clause-outcome : goal.returns-clause-outcome
returns-clause-outcome g c =
    let a = c.in-Header.ensures.reads unread [] (begins c.in-Ok.reader c.new-feed.result c.in-Ok.ensures.stands c.new-feed.ensures) in
    let item : Given = header_in c.read_on.new.reader in
    let some : 0 < length (item ∷ []) = omega arith in
    let head = c.header.ensures a.0 (item ∷ []) a.1.0.stands some in
    let begun = opened c.args.files.now c.in-Ok-open.bench item c.header.result.now.epoch c.header.result.now.map head.0 c.in-Ok-open.ensures.follows c.in-Ok-open.ensures.stands.waits head.1 c.in-Ok-open.ensures.refused in
    let ran = c.run_frames.ensures.outcome c.args.files.now a.0 (item ∷ []) a.1.0 begun in
    let well = c.in-Header.ensures.well header_is_there in
    told_then a.2 ran (λ start middle after first second.
    let o = second start (first start (read_none c.new-feed.result start c.new-feed.ensures)) in
    (o.0, subst (λ (n : ℕ). IsTextOf n (g.S.Source.faults c.run_frames.new.source) start after o.0) well o.1, o.2, o.3))

pub returns-in-Err-clause-outcome : goal.returns-in-Err-clause-outcome
returns-in-Err-clause-outcome g c =
    let a = c.in-Header.ensures.reads unread [] (begins c.in-Ok.reader c.new-feed.result c.in-Ok.ensures.stands c.new-feed.ensures) in
    let item : Given = header_in c.read_on.new.reader in
    let some : 0 < length (item ∷ []) = omega arith in
    let head = c.header.ensures a.0 (item ∷ []) a.1.0.stands some in
    let refused = header_refuses c.args.files.now item c.header.result.now.epoch c.header.result.now.map head.0 head.1 in
    let first_of_now = given_first c.read_on.new.reader a.0 (item ∷ []) a.1.0.stands in
    told_map a.2 (λ start after first.
    let read = first start (read_none c.new-feed.result start c.new-feed.ensures) in
    let end : Bool = is_closed after.rest (g.S.Source.faults c.args.source.now) (g.S.Source.faults c.read_on.new.source) in
    let closed = closed_same c.read_on.new.reader c.read_on.new.feed a.0 (item ∷ []) start after (g.S.Source.faults c.args.source.now) (g.S.Source.faults c.read_on.new.source) a.1.0 read (c.in-Header.ensures.well header_is_there) in
    let grown = items_whole a.0 c.read_on.new.feed.pending end closed in
    let all = header_refuses_whole c.args.files.now item first_of_now.0 grown.0 (reading a.0).items (reading (whole_of a.0 c.read_on.new.feed.pending end)).items first_of_now.1 grown.1 in (
      whole_of a.0 c.read_on.new.feed.pending end,
      text_of a.0 c.read_on.new.feed.pending start after (g.S.Source.faults c.args.source.now) (g.S.Source.faults c.read_on.new.source) read,
      not_opened_ahead c.report_of.result (whole_of a.0 c.read_on.new.feed.pending end) c.in-Err.fault c.report_of.ensures (header_ahead a.0 item first_of_now.0 c.read_on.new.feed.pending end closed first_of_now.1 a.1.1 a.1.0.few),
      told_nothing _ _ (λ held. not_opened c.args.files.now (crowd_in g.C.Subject.seen c.args.crowd.now) c.report_of.result (whole_of a.0 c.read_on.new.feed.pending end) c.in-Err.fault _ held c.report_of.ensures c.in-Err.ensures.refused (all ∙ refused)),
    ))
