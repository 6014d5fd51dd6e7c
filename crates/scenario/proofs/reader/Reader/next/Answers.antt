use Rattle.std.proofs.Common.{ap, sym, ◌∙◌, refl, Some}
use Rattle.scenario.specs.declared.sentence.Sentence.TheVariants as says
use Rattle.scenario.specs.Texts.{reads}
use Rattle.scenario.proofs.StandingLemmas.{stands_begun, at_the_end, at_bad}
use Rattle.scenario.proofs.NextLemmas.{LooksGood, same_line, kept_follows, kept_hidden, good_header, good_frame, good_last, good_stop}
use Rattle.scenario.proofs.reader.Reader.next.Goals as goal
use Rattle.scenario.proofs.reader.Reader.next.Goals.{After-pass, After-pass_tick, After-close_line}

pub returns-then-not-has_line-clause-last : goal.returns-then-not-has_line-clause-last
returns-then-not-has_line-clause-last c = λ _ t gave s.
    let m = stands_begun c.args.self.now _ refl refl refl c.begin.ensures.follows c.begin.ensures.hidden t gave s in
    let e = at_the_end _ t gave m (sym c.if-not-has_line.ensures) in
    (m, e.gave_all, c.at_end.ensures ∙ e.answer)

pub returns-then-not-has_line-clause-bad : goal.returns-then-not-has_line-clause-bad
returns-then-not-has_line-clause-bad c = λ line reason t gave _ s e.
    let m = stands_begun c.args.self.now (record c.args.self.now { progress = c.begin.new.self }) refl refl refl c.begin.ensures.follows c.begin.ensures.hidden t gave s in
    absurd ((at_the_end _ t gave m (sym c.if-not-has_line.ensures)).not_bad line reason e)

tick_looks_good : (c : After-pass_tick) → LooksGood (record c.args.self.now { progress = c.begin.new.self }) c.pass_tick.new.self (Some says.Tick) c.pass_tick.result
tick_looks_good c = record {
  passes = c.pass_tick.ensures;
  hidden = c.begin.ensures.hidden;
  some = sym c.if-not-has_line.ensures;
  placed = c.in-Ok.ensures.placed;
  good = λ old f. sym (c.in-Ok.ensures.value old f) ∙ ap (reads old) (same_line _ _ _ _ (c.bytes-line.ensures.value ∙ c.deref.ensures) c.takes-takes.ensures.value);
}

pub returns-in-Ok-clause-header : goal.returns-in-Ok-clause-header
returns-in-Ok-clause-header c = λ h t gave s.
    good_header _ _ _ _ (tick_looks_good c) h t gave (stands_begun c.args.self.now _ refl refl refl c.begin.ensures.follows c.begin.ensures.hidden t gave s)

pub returns-in-Ok-clause-frame : goal.returns-in-Ok-clause-frame
returns-in-Ok-clause-frame c = λ h t gave s.
    good_frame _ _ _ _ (tick_looks_good c) h t gave (stands_begun c.args.self.now _ refl refl refl c.begin.ensures.follows c.begin.ensures.hidden t gave s)

pub returns-in-Ok-clause-last : goal.returns-in-Ok-clause-last
returns-in-Ok-clause-last c = λ h t gave s.
    let l = good_last _ _ _ _ (tick_looks_good c) h t gave (stands_begun c.args.self.now _ refl refl refl c.begin.ensures.follows c.begin.ensures.hidden t gave s) in
    (l.0, l.1.gave_all, l.2 ∙ l.1.answer)

pub returns-in-Ok-clause-stop : goal.returns-in-Ok-clause-stop
returns-in-Ok-clause-stop c = λ h t gave s.
    good_stop _ _ _ _ (tick_looks_good c) h t gave (stands_begun c.args.self.now _ refl refl refl c.begin.ensures.follows c.begin.ensures.hidden t gave s)

pub returns-in-Ok-clause-bad : goal.returns-in-Ok-clause-bad
returns-in-Ok-clause-bad c = λ line reason t gave h s e.
    absurd ((good_last _ _ _ _ (tick_looks_good c) h t gave (stands_begun c.args.self.now _ refl refl refl c.begin.ensures.follows c.begin.ensures.hidden t gave s)).1.not_bad line reason e)

pub returns-in-Err-clause-last : goal.returns-in-Err-clause-last
returns-in-Err-clause-last c = λ _ t gave s.
    let m = stands_begun c.args.self.now _ refl refl refl c.begin.ensures.follows c.begin.ensures.hidden t gave s in
    let b = at_bad _ t gave c.in-Err.reason m (sym c.if-not-has_line.ensures) (λ old f. sym (c.in-Err.ensures.value old f) ∙ ap (reads old) (same_line _ _ _ _ (c.bytes-line.ensures.value ∙ c.deref.ensures) c.takes-takes.ensures.value)) in
    (m, b.gave_all, rw (b.ending, c.bad.ensures) refl)

pub returns-in-Err-clause-bad : goal.returns-in-Err-clause-bad
returns-in-Err-clause-bad c = λ line reason t gave _ s e.
    let m = stands_begun c.args.self.now (record c.args.self.now { progress = c.begin.new.self }) refl refl refl c.begin.ensures.follows c.begin.ensures.hidden t gave s in
    (at_bad _ t gave c.in-Err.reason m (sym c.if-not-has_line.ensures) (λ old f. sym (c.in-Err.ensures.value old f) ∙ ap (reads old) (same_line _ _ _ _ (c.bytes-line.ensures.value ∙ c.deref.ensures) c.takes-takes.ensures.value))).stop

send_looks_good : (c : After-close_line) → (let x : Type 0 = LooksGood (record c.args.self.now { progress = c.begin.new.self }) c.close_line.new.self (Some (says.Send (c.pass_send.ensures.passes c.if-pass_send.true).packet)) c.close_line.result in x)
send_looks_good c =
    let sent = c.pass_send.ensures.passes c.if-pass_send.true in
    record {
      passes = record {
        line = c.close_line.ensures.line;
        whole = ap (λ r. r.whole) c.close_line.ensures.others;
        finished = ap (λ r. r.finished) c.close_line.ensures.others;
        follows = λ old line f. rw (ap (λ r. r.progress) c.close_line.ensures.others) (rw (← c.takes-takes.ensures.value) (sent.follows old line f));
        keeps = rw (ap (λ r. r.progress) c.close_line.ensures.others) sent.keeps;
        answer = c.close_line.ensures.answer ∙ rw (ap (λ r. r.progress) c.close_line.ensures.others) refl;
      };
      hidden = c.begin.ensures.hidden;
      some = sym c.if-not-has_line.ensures;
      placed = sent.placed;
      good = λ old f. sent.good old f ∙ ap (reads old) (same_line _ _ _ _ (c.bytes-line.ensures.value ∙ c.deref.ensures) c.takes-takes.ensures.value);
    }

pub returns-then-pass_send-clause-header : goal.returns-then-pass_send-clause-header
returns-then-pass_send-clause-header c = λ h t gave s.
    good_header _ _ _ _ (send_looks_good c) h t gave (stands_begun c.args.self.now _ refl refl refl c.begin.ensures.follows c.begin.ensures.hidden t gave s)

pub returns-then-pass_send-clause-frame : goal.returns-then-pass_send-clause-frame
returns-then-pass_send-clause-frame c = λ h t gave s.
    good_frame _ _ _ _ (send_looks_good c) h t gave (stands_begun c.args.self.now _ refl refl refl c.begin.ensures.follows c.begin.ensures.hidden t gave s)

pub returns-then-pass_send-clause-last : goal.returns-then-pass_send-clause-last
returns-then-pass_send-clause-last c = λ h t gave s.
    let l = good_last _ _ _ _ (send_looks_good c) h t gave (stands_begun c.args.self.now _ refl refl refl c.begin.ensures.follows c.begin.ensures.hidden t gave s) in
    (l.0, l.1.gave_all, l.2 ∙ l.1.answer)

pub returns-then-pass_send-clause-stop : goal.returns-then-pass_send-clause-stop
returns-then-pass_send-clause-stop c = λ h t gave s.
    good_stop _ _ _ _ (send_looks_good c) h t gave (stands_begun c.args.self.now _ refl refl refl c.begin.ensures.follows c.begin.ensures.hidden t gave s)

pub returns-then-pass_send-clause-bad : goal.returns-then-pass_send-clause-bad
returns-then-pass_send-clause-bad c = λ line reason t gave h s e.
    absurd ((good_last _ _ _ _ (send_looks_good c) h t gave (stands_begun c.args.self.now _ refl refl refl c.begin.ensures.follows c.begin.ensures.hidden t gave s)).1.not_bad line reason e)

looks_good : (c : After-pass) → LooksGood (record c.args.self.now { progress = c.pass_send.new.self; said = c.reads.new.said; places = c.reads.new.places }) c.pass.new.self c.reads.new.said c.pass.result
looks_good c = record {
  passes = c.pass.ensures;
  hidden = kept_hidden _ _ (c.pass_send.ensures.kept c.if-pass_send.false) c.begin.ensures.hidden;
  some = sym c.if-not-has_line.ensures;
  placed = c.in-Ok-reads.ensures.placed;
  good = λ old f. sym (c.in-Ok-reads.ensures.value old f) ∙ ap (reads old) (same_line _ _ _ _ (c.bytes-line.ensures.value ∙ c.deref.ensures) c.takes-takes.ensures.value);
}

pub returns-in-Ok-reads-clause-header : goal.returns-in-Ok-reads-clause-header
returns-in-Ok-reads-clause-header c = λ h t gave s.
    good_header _ _ _ _ (looks_good c) h t gave (stands_begun c.args.self.now _ refl refl refl (kept_follows _ _ _ (c.pass_send.ensures.kept c.if-pass_send.false) c.begin.ensures.follows) (kept_hidden _ _ (c.pass_send.ensures.kept c.if-pass_send.false) c.begin.ensures.hidden) t gave s)

pub returns-in-Ok-reads-clause-frame : goal.returns-in-Ok-reads-clause-frame
returns-in-Ok-reads-clause-frame c = λ h t gave s.
    good_frame _ _ _ _ (looks_good c) h t gave (stands_begun c.args.self.now _ refl refl refl (kept_follows _ _ _ (c.pass_send.ensures.kept c.if-pass_send.false) c.begin.ensures.follows) (kept_hidden _ _ (c.pass_send.ensures.kept c.if-pass_send.false) c.begin.ensures.hidden) t gave s)

pub returns-in-Ok-reads-clause-last : goal.returns-in-Ok-reads-clause-last
returns-in-Ok-reads-clause-last c = λ h t gave s.
    let l = good_last _ _ _ _ (looks_good c) h t gave (stands_begun c.args.self.now _ refl refl refl (kept_follows _ _ _ (c.pass_send.ensures.kept c.if-pass_send.false) c.begin.ensures.follows) (kept_hidden _ _ (c.pass_send.ensures.kept c.if-pass_send.false) c.begin.ensures.hidden) t gave s) in
    (l.0, l.1.gave_all, l.2 ∙ l.1.answer)

pub returns-in-Ok-reads-clause-stop : goal.returns-in-Ok-reads-clause-stop
returns-in-Ok-reads-clause-stop c = λ h t gave s.
    good_stop _ _ _ _ (looks_good c) h t gave (stands_begun c.args.self.now _ refl refl refl (kept_follows _ _ _ (c.pass_send.ensures.kept c.if-pass_send.false) c.begin.ensures.follows) (kept_hidden _ _ (c.pass_send.ensures.kept c.if-pass_send.false) c.begin.ensures.hidden) t gave s)

pub returns-in-Ok-reads-clause-bad : goal.returns-in-Ok-reads-clause-bad
returns-in-Ok-reads-clause-bad c = λ line reason t gave h s e.
    absurd ((good_last _ _ _ _ (looks_good c) h t gave (stands_begun c.args.self.now _ refl refl refl (kept_follows _ _ _ (c.pass_send.ensures.kept c.if-pass_send.false) c.begin.ensures.follows) (kept_hidden _ _ (c.pass_send.ensures.kept c.if-pass_send.false) c.begin.ensures.hidden) t gave s)).1.not_bad line reason e)

pub returns-in-Err-reads-clause-last : goal.returns-in-Err-reads-clause-last
returns-in-Err-reads-clause-last c = λ _ t gave s.
    let m = stands_begun c.args.self.now _ refl refl refl (kept_follows _ _ _ (c.pass_send.ensures.kept c.if-pass_send.false) c.begin.ensures.follows) (kept_hidden _ _ (c.pass_send.ensures.kept c.if-pass_send.false) c.begin.ensures.hidden) t gave s in
    let b = at_bad _ t gave c.in-Err-reads.reason m (sym c.if-not-has_line.ensures) (λ old f. sym (c.in-Err-reads.ensures.value old f) ∙ ap (reads old) (same_line _ _ _ _ (c.bytes-line.ensures.value ∙ c.deref.ensures) c.takes-takes.ensures.value)) in
    (m, b.gave_all, rw (b.ending, c.bad-in-Err-reads.ensures) refl)

pub returns-in-Err-reads-clause-bad : goal.returns-in-Err-reads-clause-bad
returns-in-Err-reads-clause-bad c = λ line reason t gave _ s e.
    let m = stands_begun c.args.self.now (record c.args.self.now { progress = c.pass_send.new.self }) refl refl refl (kept_follows _ _ _ (c.pass_send.ensures.kept c.if-pass_send.false) c.begin.ensures.follows) (kept_hidden _ _ (c.pass_send.ensures.kept c.if-pass_send.false) c.begin.ensures.hidden) t gave s in
    (at_bad _ t gave c.in-Err-reads.reason m (sym c.if-not-has_line.ensures) (λ old f. sym (c.in-Err-reads.ensures.value old f) ∙ ap (reads old) (same_line _ _ _ _ (c.bytes-line.ensures.value ∙ c.deref.ensures) c.takes-takes.ensures.value))).stop
