use Rattle.std.proofs.Common.{◌≡◌, ℕ, ◌+◌, ◌<◌, Bool, List, [], ◌∷◌, ◌++◌, length, sym, ◌∙◌, ap, subst, refl, append-nil, append_assoc, length-append, arith, rules, Option}
use Rattle.fsw_outside.specs.Told.{WhereTold}
use Rattle.fsw_outside.specs.PieceLaws.{appends_more}
use Rattle.fsw_outside.specs.TellingLaws.{told_then, told_map, told_nothing}
use Rattle.scenario.specs.FrameLists.{Frame}
use Rattle.scenario.specs.Texts.{Text, Given, Whole, reading}
use Rattle.scenario.specs.Answers.{answer_at_end}
use Rattle.scenario.specs.Standing.{Stands}
use Rattle.packet_log.specs.Blocks.{tells}
use Rattle.frame_exec.specs.Runs.{Setup, frame_lines}
use Rattle.frame_exec.specs.Crowds.{frame_beside}
use Rattle.rehearsal.specs.declared.report.Report.{Report}
use Rattle.rehearsal.specs.Fed.{Fed}
use Rattle.rehearsal.specs.Run.{IsCutShort}
use Rattle.rehearsal.specs.Text.{IsRead, Holds}
use Rattle.frame_exec.specs.Beside.{crowd_in}
use Rattle.frame_exec.specs.Standing.{waiting_in}
use Rattle.rehearsal.specs.Outcome.{frames_of, setup_of, frames_in, log_in}
use Rattle.scenario.specs.TextLaws.{given_first}
use Rattle.rehearsal.proofs.TextFacts.{no_later_head, can_run, few_frames}
use Rattle.rehearsal.proofs.Endings.{not_open_at_end, not_open_at_bad}
use Rattle.rehearsal.proofs.Outcomes.{whole_of, is_closed, text_of, closed_same, open_after, tells_some, reading_same, reading_whole, count_in, run_next, frames_more, setup_append, refused_append, log_in_more, log_in_none, read_failed, done, refused_at, runs_next}
use Rattle.rehearsal.proofs.Ahead.{ahead_by, bad_ahead, one_more}
use Rattle.rehearsal.proofs.Running.{IsNear, has_begun, run_after, left_after, near_fed, near_more, none_near, read_still, cut_short, log_by, cut_ends, ends, tells_alone, told_alone}
use Rattle.rehearsal.proofs.run.run_frames.Goals as goal

pub frames-init : goal.frames-init
frames-init g c = record {
  opened = c.requires.opened;
  ran = λ files text gave h b. (
    text,
    gave,
    has_begun files (crowd_in g.C.Subject.seen c.args.crowd.now) c.args.bench.now c.args.reader.now c.args.feed.now text gave h b,
    told_nothing _ _ (λ a start r. r),
    subst (λ (held : Option (List ℕ)). WhereTold (g.O.Sink.held c.args.out.now) held (λ old new. new ≡ old ++ log_in files (crowd_in g.C.Subject.seen c.args.crowd.now) gave)) (sym (tells_alone (g.O.Sink.held c.args.out.now) (waiting_in c.args.bench.now) b.waits))
        (told_nothing _ _ (λ held. sym (ap (λ (log : List ℕ). held ++ log) (log_in_none files (crowd_in g.C.Subject.seen c.args.crowd.now) gave b.none) ∙ append-nil held))),
  );
  read_well = refl;
  wrote_well = refl;
  mark = refl;
}

pub add_frame-requires-clause-started : goal.add_frame-requires-clause-started
add_frame-requires-clause-started g c =
    let s = c.requires.holds in
    let i = c.frames.invariant.ran s.0 s.1 s.2 s.3 s.4 in
    let n = c.in-Frame.ensures.gives i.0 i.1 i.2.holds in
    let stands = subst (λ (item : Given). Stands c.next_item.new.reader n.0 (i.1 ++ item ∷ [])) (sym c.frame.ensures) n.1.0.stands in
    let held = runs_next s.0 (crowd_in g.C.Subject.seen c.args.crowd.now) c.frames.bench i.1 i.2.earlier i.2.later c.frame.result.now i.2.follows i.2.are (can_run s.0 c.next_item.new.reader n.0 i.1 c.frame.result.now stands) in
    search (rules, held)

pub returns-in-Err-clause-outcome : goal.returns-in-Err-clause-outcome
returns-in-Err-clause-outcome g c = λ files text gave h b.
    let i = c.frames.invariant.ran files text gave h b in
    let n = c.in-Frame.ensures.gives i.0 i.1 i.2.holds in
    let f = c.frame.result.now in
    let stands = subst (λ (item : Given). Stands c.next_item.new.reader n.0 (i.1 ++ item ∷ [])) (sym c.frame.ensures) n.1.0.stands in
    let first = given_first c.next_item.new.reader n.0 (i.1 ++ Whole f ∷ []) stands in
    let cut = c.in-Err.ensures.cut (setup_of files i.1) i.2.earlier i.2.later i.2.follows in
    let run : Frame = frame_beside (crowd_in g.C.Subject.seen c.frames.crowd) f in
    let frames : List Frame = (i.2.earlier ++ i.2.later) ++ run ∷ [] in
    let size = length-append (i.2.earlier ++ i.2.later) (run ∷ []) in
    let number = i.2.number ∙ count_in files (crowd_in g.C.Subject.seen c.args.crowd.now) i.1 _ i.2.are in
    let setup = setup_append files i.1 (Whole f ∷ []) i.2.some in
    let are = run_after files (crowd_in g.C.Subject.seen c.args.crowd.now) _ i.1 f _ i.2.some i.2.are i.2.left in
    let short = cut_short c.at.result (setup_of files i.1) i.2.earlier i.2.later frames c.in-Err.cut.late c.frames.frames _ _ c.at.ensures number cut.0 (omega (arith, size, number)) cut.1 in
    let near : IsNear n.0 c.next_item.new.feed.pending (length i.2.earlier) (c.frames.frames + 1) =
    near_more n.0 i.1 first.0 f c.next_item.new.feed.pending (length i.2.earlier) c.frames.frames first.1 (one_more c.frames.reader i.0 i.1 i.2.holds.stands i.2.some) i.2.number n.1.1 n.1.0.few
    (near_fed c.frames.reader c.frames.feed i.0 n.0 i.1 c.next_item.new.feed.pending (length i.2.earlier) c.frames.frames i.2.holds n.2 i.2.near) in
    let count : c.frames.frames + 1 ≡ length frames = omega (arith, size, number) in
    told_map i.3 (λ before after read start r.
    let there = read_still i.0 n.0 c.frames.feed.pending c.next_item.new.feed.pending start after n.2 (read start r) in
    let end : Bool = is_closed after.rest (g.S.Source.faults c.args.source.now) (g.S.Source.faults c.frames.source) in
    let closed = closed_same c.next_item.new.reader c.next_item.new.feed n.0 _ start after (g.S.Source.faults c.args.source.now) (g.S.Source.faults c.frames.source) n.1.0 there c.frames.invariant.read_well in
    let ends = cut_ends files (crowd_in g.C.Subject.seen c.args.crowd.now) c.at.result n.0 (i.1 ++ Whole f ∷ []) first.0 (i.2.earlier ++ i.2.later) frames c.next_item.new.feed.pending end (length i.2.earlier) _ _ _
    (refused_append files i.1 (Whole f ∷ []) i.2.some ∙ i.2.given) (omega (arith, i.2.some, length-append i.1 (Whole f ∷ []))) first.1 closed are
    (subst (IsNear n.0 c.next_item.new.feed.pending (length i.2.earlier)) count near)
    (told_map i.4 (λ old new written. written ∙ ap (λ (log : List ℕ). old ++ log) (log_by files (crowd_in g.C.Subject.seen c.args.crowd.now) i.1 _ _ (sym setup) i.2.are)))
    (subst (λ (s : Setup). IsCutShort c.at.result s (i.2.earlier ++ i.2.later) frames (length i.2.earlier) (tells (g.O.Sink.held c.frames.out) (waiting_in c.frames.bench)) (g.O.Sink.held c.add_frame.new.sink)) (sym setup) short) in (
      whole_of n.0 c.next_item.new.feed.pending end,
      text_of n.0 c.next_item.new.feed.pending start after (g.S.Source.faults c.args.source.now) (g.S.Source.faults c.frames.source) there,
      ends.0,
      ends.1,
    ))

pub overflow_add-frames : goal.overflow_add-frames
overflow_add-frames g c =
    let s = c.requires.holds in
    let i = c.frames.invariant.ran s.0 s.1 s.2 s.3 s.4 in
    let n = c.in-Frame.ensures.gives i.0 i.1 i.2.holds in
    let stands = subst (λ (item : Given). Stands c.next_item.new.reader n.0 (i.1 ++ item ∷ [])) (sym c.frame.ensures) n.1.0.stands in
    let few = few_frames c.next_item.new.reader n.0 (i.1 ++ Whole c.frame.result.now ∷ []) stands in
    let more = ap (length {A = Frame}) (frames_more i.1 c.frame.result.now) ∙ length-append (frames_of i.1) (c.frame.result.now ∷ []) in
    let number = i.2.number in
    search (arith, few, more, number)

pub frames-smaller-in-Ok : goal.frames-smaller-in-Ok
frames-smaller-in-Ok g c =
    let s = c.requires.holds in
    let i = c.frames.invariant.ran s.0 s.1 s.2 s.3 s.4 in
    let n = c.in-Frame.ensures.gives i.0 i.1 i.2.holds in
    let stands = subst (λ (item : Given). Stands c.next_item.new.reader n.0 (i.1 ++ item ∷ [])) (sym c.frame.ensures) n.1.0.stands in
    let few = few_frames c.next_item.new.reader n.0 (i.1 ++ Whole c.frame.result.now ∷ []) stands in
    let more = ap (length {A = Frame}) (frames_more i.1 c.frame.result.now) ∙ length-append (frames_of i.1) (c.frame.result.now ∷ []) in
    omega (arith, few, more, i.2.number, c.next_item.ensures.less)

pub frames-preserved-in-Ok : goal.frames-preserved-in-Ok
frames-preserved-in-Ok g c = record {
  opened = c.frames.invariant.opened;
  ran = λ files text gave h b.
      let i = c.frames.invariant.ran files text gave h b in
      let n = c.in-Frame.ensures.gives i.0 i.1 i.2.holds in
      let f = c.frame.result.now in
      let run : Frame = frame_beside (crowd_in g.C.Subject.seen c.frames.crowd) f in
      let got : List Given = i.1 ++ Whole f ∷ [] in
      let holds = subst (λ (item : Given). Holds c.next_item.new.reader c.next_item.new.feed n.0 (i.1 ++ item ∷ [])) (sym c.frame.ensures) n.1.0 in
      let first = given_first c.next_item.new.reader n.0 got holds.stands in
      let follows = c.in-Ok.ensures.follows (setup_of files i.1) i.2.earlier i.2.later i.2.follows in
      let setup = setup_append files i.1 (Whole f ∷ []) i.2.some in
      let frames = frames_more i.1 f in (
        n.0,
        got,
        record {
          earlier = i.2.earlier;
          later = i.2.later ++ run ∷ [];
          holds = holds;
          follows = rw setup follows;
          are = run_after files (crowd_in g.C.Subject.seen c.args.crowd.now) _ i.1 f _ i.2.some i.2.are i.2.left ∙ append_assoc i.2.earlier i.2.later (run ∷ []);
          left = left_after files (crowd_in g.C.Subject.seen c.args.crowd.now) _ _ i.1 f _ i.2.some i.2.are i.2.left (c.in-Ok.ensures.crowd (setup_of files i.1) i.2.earlier i.2.later i.2.follows);
          given = refused_append files i.1 (Whole f ∷ []) i.2.some ∙ i.2.given;
          some = simp length-append (omega (arith, i.2.some));
          number = ap (λ (k : ℕ). k + 1) i.2.number ∙ sym (ap (length {A = Frame}) frames ∙ length-append (frames_of i.1) (f ∷ []));
          near = near_more n.0 i.1 first.0 f c.next_item.new.feed.pending (length i.2.earlier) c.frames.frames first.1 (one_more c.frames.reader i.0 i.1 i.2.holds.stands i.2.some) i.2.number n.1.1 n.1.0.few
              (near_fed c.frames.reader c.frames.feed i.0 n.0 i.1 c.next_item.new.feed.pending (length i.2.earlier) c.frames.frames i.2.holds n.2 i.2.near);
        },
        told_map i.3 (λ before after read start r. read_still i.0 n.0 c.frames.feed.pending c.next_item.new.feed.pending start after n.2 (read start r)),
        told_then i.4 (c.in-Ok.ensures.told (setup_of files i.1) i.2.earlier i.2.later i.2.follows) (λ old middle new written appended.
            rw (log_in_more files (crowd_in g.C.Subject.seen c.args.crowd.now) i.1 f i.2.some)
            (appends_more (log_in files (crowd_in g.C.Subject.seen c.args.crowd.now) i.1) (frame_lines (setup_of files i.1) (frames_in files (crowd_in g.C.Subject.seen c.args.crowd.now) i.1) (run_next files (crowd_in g.C.Subject.seen c.args.crowd.now) i.1 f)) old middle new written
            (appended ∙ (λ j. middle ++ frame_lines (setup_of files i.1) (sym i.2.are j) (frame_beside (i.2.left j) f))))),
      );
  read_well = c.frames.invariant.read_well;
  wrote_well = c.in-Ok.ensures.cause.kept ∙ c.frames.invariant.wrote_well;
  mark = c.frames.invariant.mark;
}

pub frames-smaller-in-Header : goal.frames-smaller-in-Header
frames-smaller-in-Header g c =
    let s = c.requires.holds in
    let i = c.frames.invariant.ran s.0 s.1 s.2 s.3 s.4 in
    let n = c.in-Header.ensures.gives i.0 i.1 i.2.holds in
    absurd (no_later_head c.next_item.new.reader n.0 i.1 _ _ n.1.0.stands i.2.some)

pub frames-preserved-in-Header : goal.frames-preserved-in-Header
frames-preserved-in-Header g c =
    let s = c.requires.holds in
    let i = c.frames.invariant.ran s.0 s.1 s.2 s.3 s.4 in
    let n = c.in-Header.ensures.gives i.0 i.1 i.2.holds in
    absurd (no_later_head c.next_item.new.reader n.0 i.1 _ _ n.1.0.stands i.2.some)

pub frames-smaller : goal.frames-smaller
frames-smaller g c = omega (arith, c.next_item.ensures.less, c.in-Ok-fetch.ensures.less)

pub frames-preserved : goal.frames-preserved
frames-preserved g c = record {
  opened = c.fetch.ensures.is_open;
  ran = λ files text gave h b.
      let i = c.frames.invariant.ran files text gave h b in
      let n = c.in-Dry.ensures.gives i.0 i.1 i.2.holds in
      let a = c.in-Ok-fetch.ensures.reads n.0 i.1 n.1.0 in
      let follows = c.in-Ok-flush.ensures.follows (setup_of files i.1) i.2.earlier i.2.later i.2.follows in
      let are = i.2.are ∙ sym (append-nil (i.2.earlier ++ i.2.later)) in (
        a.0,
        i.1,
        record {
          earlier = i.2.earlier ++ i.2.later;
          later = [];
          holds = a.1;
          follows = follows;
          are = are;
          left = i.2.left;
          given = i.2.given;
          some = i.2.some;
          number = i.2.number;
          near = subst (λ (k : ℕ). IsNear a.0 c.fetch.new.feed.pending k c.frames.frames) (i.2.number ∙ count_in files (crowd_in g.C.Subject.seen c.args.crowd.now) i.1 _ i.2.are) (none_near a.0 c.fetch.new.feed.pending c.frames.frames);
        },
        told_then i.3 a.3 (λ before middle after first second start r.
            second start (subst (λ (pending : List ℕ). IsRead n.0 pending start middle) n.1.4 (read_still i.0 n.0 c.frames.feed.pending c.next_item.new.feed.pending start middle n.2 (first start r)))),
        told_then i.4 c.in-Ok-flush.ensures.told (λ old middle new written same. same ∙ written),
      );
  read_well = c.in-Ok-fetch.ensures.cause.kept ∙ c.frames.invariant.read_well;
  wrote_well = c.in-Ok-flush.ensures.cause.kept ∙ c.frames.invariant.wrote_well;
  mark = c.fetch.ensures.mark ∙ c.frames.invariant.mark;
}

pub returns-in_default-clause-outcome : goal.returns-in_default-clause-outcome
returns-in_default-clause-outcome g c = λ files text gave h b after tells.
    let i = c.frames.invariant.ran files text gave h b in
    let n = c.in-Dry.ensures.gives i.0 i.1 i.2.holds in
    let a = c.in_default.ensures.reads n.0 i.1 n.1.0 in
    let later = a.3 after tells in
    let earlier = i.3 later.0 later.1 in
    let rose : g.S.Source.faults c.args.source.now < g.S.Source.faults c.fetch.new.source = rw (← c.frames.invariant.read_well) (c.in_default.ensures.cause.failed.strictly (tells_some _ after tells)) in
    let none = ap (λ (f : Fed). f.pending) c.in_default.ensures.same_feed ∙ n.1.4 in
    let is_open_now = ap (λ (t : Text). t.closed) a.2 ∙ n.1.3 in (
      earlier.0,
      earlier.1,
      λ start r.
          let end : Bool = is_closed after.rest (g.S.Source.faults c.args.source.now) (g.S.Source.faults c.fetch.new.source) in
          let is_open = open_after after.rest (g.S.Source.faults c.args.source.now) (g.S.Source.faults c.fetch.new.source) rose in
          let same = reading_same a.0 c.fetch.new.feed.pending end none (is_open ∙ sym is_open_now) in
          let read = later.2 start (subst (λ (pending : List ℕ). IsRead n.0 pending start later.0) n.1.4 (read_still i.0 n.0 c.frames.feed.pending c.next_item.new.feed.pending start later.0 n.2 (earlier.2 start r))) in (
            whole_of a.0 c.fetch.new.feed.pending end,
            text_of a.0 c.fetch.new.feed.pending start after (g.S.Source.faults c.args.source.now) (g.S.Source.faults c.fetch.new.source) read,
            ahead_by c.at-in_default.result _ (whole_of a.0 c.fetch.new.feed.pending end) c.at-in_default.ensures tt,
            told_then i.4 (told_alone _ _ _ _ c.in-Ok-flush.ensures.handed c.in-Ok-flush.ensures.told) (λ old middle new written kept.
                read_failed files (crowd_in g.C.Subject.seen c.args.crowd.now) c.at-in_default.result c.frames.frames a.0 (whole_of a.0 c.fetch.new.feed.pending end) i.1 old new c.at-in_default.ensures i.2.given same
                (n.1.1 ∙ ap (λ (t : Text). (reading t).items) (sym a.2)) (n.1.2 ∙ ap (λ (t : Text). answer_at_end (reading t).ending) (sym a.2)) i.2.number (kept ∙ written)),
          ),
    )

pub returns-in-Err-flush-clause-outcome : goal.returns-in-Err-flush-clause-outcome
returns-in-Err-flush-clause-outcome g c = λ files text gave h b.
    let i = c.frames.invariant.ran files text gave h b in
    let n = c.in-Dry.ensures.gives i.0 i.1 i.2.holds in
    let cut = c.in-Err-flush.ensures.cut (setup_of files i.1) i.2.earlier i.2.later i.2.follows in
    let number = i.2.number ∙ count_in files (crowd_in g.C.Subject.seen c.args.crowd.now) i.1 _ i.2.are in
    let all = length-append i.2.earlier i.2.later in
    let short = cut_short c.at-in-Err-flush.result (setup_of files i.1) i.2.earlier i.2.later (i.2.earlier ++ i.2.later) c.in-Err-flush.cut.late c.frames.frames _ _ c.at-in-Err-flush.ensures number cut.1
    (omega (arith, number, all, cut.0, cut.1)) cut.2 in
    let near : IsNear n.0 c.next_item.new.feed.pending (length i.2.earlier) c.frames.frames =
    near_fed c.frames.reader c.frames.feed i.0 n.0 i.1 c.next_item.new.feed.pending (length i.2.earlier) c.frames.frames i.2.holds n.2 i.2.near in
    told_map i.3 (λ before after read start r.
    let there = read_still i.0 n.0 c.frames.feed.pending c.next_item.new.feed.pending start after n.2 (read start r) in
    let end : Bool = is_closed after.rest (g.S.Source.faults c.args.source.now) (g.S.Source.faults c.frames.source) in
    let closed = closed_same c.next_item.new.reader c.next_item.new.feed n.0 i.1 start after (g.S.Source.faults c.args.source.now) (g.S.Source.faults c.frames.source) n.1.0 there c.frames.invariant.read_well in
    let ends = cut_ends files (crowd_in g.C.Subject.seen c.args.crowd.now) c.at-in-Err-flush.result n.0 i.1 [] (i.2.earlier ++ i.2.later) (i.2.earlier ++ i.2.later) c.next_item.new.feed.pending end (length i.2.earlier) _ _ _
    i.2.given i.2.some (sym n.1.1 ∙ sym (append-nil i.1)) closed i.2.are (subst (IsNear n.0 c.next_item.new.feed.pending (length i.2.earlier)) number near)
    (told_map i.4 (λ old new written. written ∙ ap (λ (log : List ℕ). old ++ log) (log_by files (crowd_in g.C.Subject.seen c.args.crowd.now) i.1 _ _ refl i.2.are))) short in (
      whole_of n.0 c.next_item.new.feed.pending end,
      text_of n.0 c.next_item.new.feed.pending start after (g.S.Source.faults c.args.source.now) (g.S.Source.faults c.frames.source) there,
      ends.0,
      ends.1,
    ))

pub hand_on-requires-clause-follows : goal.hand_on-requires-clause-follows
hand_on-requires-clause-follows g c =
    let s = c.requires.holds in
    let i = c.frames.invariant.ran s.0 s.1 s.2 s.3 s.4 in
    (setup_of s.0 i.1, i.2.earlier, i.2.later, i.2.follows, ap (λ (r : Report). r.frames) c.at-in-End.ensures ∙ i.2.number ∙ count_in s.0 (crowd_in g.C.Subject.seen c.args.crowd.now) i.1 _ i.2.are)

pub returns-in-End-clause-outcome : goal.returns-in-End-clause-outcome
returns-in-End-clause-outcome g c = λ files text gave h b.
    let i = c.frames.invariant.ran files text gave h b in
    let n = c.in-End.ensures.gives i.0 i.1 i.2.holds in
    let number = i.2.number ∙ count_in files (crowd_in g.C.Subject.seen c.args.crowd.now) i.1 _ i.2.are in
    let hands = c.hand_on.ensures.hands_on (setup_of files i.1) i.2.earlier i.2.later i.2.follows (ap (λ (r : Report). r.frames) c.at-in-End.ensures ∙ number) in
    let near : IsNear n.0 c.next_item.new.feed.pending (length i.2.earlier) (length (i.2.earlier ++ i.2.later)) =
    subst (IsNear n.0 c.next_item.new.feed.pending (length i.2.earlier)) number (near_fed c.frames.reader c.frames.feed i.0 n.0 i.1 c.next_item.new.feed.pending (length i.2.earlier) c.frames.frames i.2.holds n.2 i.2.near) in
    told_map i.3 (λ before after read start r.
    let there = read_still i.0 n.0 c.frames.feed.pending c.next_item.new.feed.pending start after n.2 (read start r) in
    let end : Bool = is_closed after.rest (g.S.Source.faults c.args.source.now) (g.S.Source.faults c.frames.source) in
    let closed = closed_same c.next_item.new.reader c.next_item.new.feed n.0 i.1 start after (g.S.Source.faults c.args.source.now) (g.S.Source.faults c.frames.source) n.1.0 there c.frames.invariant.read_well in
    let same = reading_whole n.0 c.next_item.new.feed.pending end closed (not_open_at_end (reading n.0).ending n.1.2) in
    let all = ends files (crowd_in g.C.Subject.seen c.args.crowd.now) c.hand_on.result c.at-in-End.result n.0 i.1 i.2.earlier i.2.later c.next_item.new.feed.pending end _ _ _ i.2.given i.2.some n.1.1 closed i.2.are near i.4 hands (λ is. (
      ahead_by c.hand_on.result _ (whole_of n.0 c.next_item.new.feed.pending end) (is ∙ c.at-in-End.ensures) tt,
      λ old new written. done files (crowd_in g.C.Subject.seen c.args.crowd.now) c.hand_on.result c.frames.frames n.0 (whole_of n.0 c.next_item.new.feed.pending end) i.1 old new (is ∙ c.at-in-End.ensures) i.2.given same n.1.1 n.1.2 i.2.number written,
    )) in (
      whole_of n.0 c.next_item.new.feed.pending end,
      text_of n.0 c.next_item.new.feed.pending start after (g.S.Source.faults c.args.source.now) (g.S.Source.faults c.frames.source) there,
      all.0,
      all.1,
    ))

pub hand_on-requires-in-Bad-clause-follows : goal.hand_on-requires-in-Bad-clause-follows
hand_on-requires-in-Bad-clause-follows g c =
    let s = c.requires.holds in
    let i = c.frames.invariant.ran s.0 s.1 s.2 s.3 s.4 in
    (setup_of s.0 i.1, i.2.earlier, i.2.later, i.2.follows, ap (λ (r : Report). r.frames) c.refused.ensures ∙ i.2.number ∙ count_in s.0 (crowd_in g.C.Subject.seen c.args.crowd.now) i.1 _ i.2.are)

pub returns-in-Bad-clause-outcome : goal.returns-in-Bad-clause-outcome
returns-in-Bad-clause-outcome g c = λ files text gave h b.
    let i = c.frames.invariant.ran files text gave h b in
    let n = c.in-Bad.ensures.gives i.0 i.1 i.2.holds in
    let number = i.2.number ∙ count_in files (crowd_in g.C.Subject.seen c.args.crowd.now) i.1 _ i.2.are in
    let hands = c.hand_on-in-Bad.ensures.hands_on (setup_of files i.1) i.2.earlier i.2.later i.2.follows (ap (λ (r : Report). r.frames) c.refused.ensures ∙ number) in
    let near : IsNear n.0 c.next_item.new.feed.pending (length i.2.earlier) (length (i.2.earlier ++ i.2.later)) =
    subst (IsNear n.0 c.next_item.new.feed.pending (length i.2.earlier)) number (near_fed c.frames.reader c.frames.feed i.0 n.0 i.1 c.next_item.new.feed.pending (length i.2.earlier) c.frames.frames i.2.holds n.2 i.2.near) in
    told_map i.3 (λ before after read start r.
    let there = read_still i.0 n.0 c.frames.feed.pending c.next_item.new.feed.pending start after n.2 (read start r) in
    let end : Bool = is_closed after.rest (g.S.Source.faults c.args.source.now) (g.S.Source.faults c.frames.source) in
    let closed = closed_same c.next_item.new.reader c.next_item.new.feed n.0 i.1 start after (g.S.Source.faults c.args.source.now) (g.S.Source.faults c.frames.source) n.1.0 there c.frames.invariant.read_well in
    let same = reading_whole n.0 c.next_item.new.feed.pending end closed (not_open_at_bad (reading n.0).ending c.in-Bad.line c.in-Bad.reason n.1.2) in
    let all = ends files (crowd_in g.C.Subject.seen c.args.crowd.now) c.hand_on-in-Bad.result c.refused.result n.0 i.1 i.2.earlier i.2.later c.next_item.new.feed.pending end _ _ _ i.2.given i.2.some n.1.1 closed i.2.are near i.4 hands (λ is. (
      ahead_by c.hand_on-in-Bad.result _ (whole_of n.0 c.next_item.new.feed.pending end) (is ∙ c.refused.ensures) (bad_ahead n.0 (whole_of n.0 c.next_item.new.feed.pending end) i.1 c.next_item.new.feed.pending same n.1.1 refl n.1.0.few n.1.3),
      λ old new written. refused_at files (crowd_in g.C.Subject.seen c.args.crowd.now) c.hand_on-in-Bad.result c.in-Bad.line c.in-Bad.reason c.frames.frames n.0 (whole_of n.0 c.next_item.new.feed.pending end) i.1 old new (is ∙ c.refused.ensures) i.2.given same n.1.1 n.1.2 i.2.number written,
    )) in (
      whole_of n.0 c.next_item.new.feed.pending end,
      text_of n.0 c.next_item.new.feed.pending start after (g.S.Source.faults c.args.source.now) (g.S.Source.faults c.frames.source) there,
      all.0,
      all.1,
    ))

pub next_item-requires : goal.next_item-requires
next_item-requires g c =
    let s = c.requires.holds in
    let i = c.frames.invariant.ran s.0 s.1 s.2 s.3 s.4 in
    record { holds = (i.0, i.1, i.2.holds) }

pub overflow_sub-frames : goal.overflow_sub-frames
overflow_sub-frames g c =
    let s = c.requires.holds in
    let i = c.frames.invariant.ran s.0 s.1 s.2 s.3 s.4 in
    let cut = c.in-Err.ensures.cut (setup_of s.0 i.1) i.2.earlier i.2.later i.2.follows in
    let number = i.2.number ∙ count_in s.0 (crowd_in g.C.Subject.seen c.args.crowd.now) i.1 _ i.2.are in
    let all = length-append i.2.earlier i.2.later in
    let few = cut.0 in
    search (arith, number, all, few)

pub overflow_sub-frames-in-Err-flush : goal.overflow_sub-frames-in-Err-flush
overflow_sub-frames-in-Err-flush g c =
    let s = c.requires.holds in
    let i = c.frames.invariant.ran s.0 s.1 s.2 s.3 s.4 in
    let cut = c.in-Err-flush.ensures.cut (setup_of s.0 i.1) i.2.earlier i.2.later i.2.follows in
    let number = i.2.number ∙ count_in s.0 (crowd_in g.C.Subject.seen c.args.crowd.now) i.1 _ i.2.are in
    let all = length-append i.2.earlier i.2.later in
    let few = cut.1 in
    search (arith, number, all, few)
