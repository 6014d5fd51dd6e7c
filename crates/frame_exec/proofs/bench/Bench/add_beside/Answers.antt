use Rattle.std.proofs.Common.{◌≡◌, ℕ, ◌-◌, ◌≤◌, List, [], ◌∷◌, ◌++◌, map, length, ◌∙◌, subst}
use Rattle.fsw_outside.specs.Told.{WhereTold}
use Rattle.packet_forms.specs.declared.name.Counter.{Counter}
use Rattle.packet_log.specs.Blocks.{tells}
use Rattle.frame_runs.specs.Runs.{frame_lines, log_of}
use Rattle.frame_runs.specs.Crowds.{with_counters, beside}
use Rattle.frame_exec.specs.Following.{Follows, IsCutAt}
use Rattle.frame_exec.specs.Stages.{HasGiven}
use Rattle.frame_exec.proofs.Obeying.{obeyed_frame}
use Rattle.frame_exec.proofs.bench.Bench.add_beside.Goals as goal

-- the readings of the crowd are the counters that the frame was run on
pub returns-in-Ok-clause-follows : goal.returns-in-Ok-clause-follows
returns-in-Ok-clause-follows g c = λ setup earlier later follows.
    subst (λ (counters : List Counter). Follows c.add_on.new.self setup earlier (later ++ with_counters counters c.args.input.now ∷ [])) (c.readings.ensures.readings ∙ c.cycle_on.ensures.readings) (c.in-Ok.ensures.follows setup earlier later follows)

pub returns-in-Ok-clause-told : goal.returns-in-Ok-clause-told
returns-in-Ok-clause-told g c = λ setup earlier later follows.
    subst (λ (counters : List Counter). WhereTold (tells (g.O.Sink.held c.args.sink.now) c.args.self.now.lines.block) (tells (g.O.Sink.held c.add_on.new.sink) c.add_on.new.self.lines.block) (λ before after. after ≡ before ++ frame_lines setup (earlier ++ later) (with_counters counters c.args.input.now))) (c.readings.ensures.readings ∙ c.cycle_on.ensures.readings)
    (c.in-Ok.ensures.told setup earlier later follows)

pub returns-in-Ok-clause-crowd : goal.returns-in-Ok-clause-crowd
returns-in-Ok-clause-crowd g c = λ setup earlier later follows.
    let old = map g.S.Subject.seen c.args.crowd.now.subjects in
    let given = subst (λ (counters : List Counter). HasGiven c.add_on.new.self setup (earlier ++ later) (with_counters counters c.args.input.now)) (c.readings.ensures.readings ∙ c.cycle_on.ensures.readings) (c.in-Ok.ensures.given setup earlier later follows) in
    obeyed_frame c.add_on.new.self setup (earlier ++ later) (beside old c.args.input.now) old (map g.S.Subject.seen c.cycle_on.new.self.subjects) (map g.S.Subject.seen c.tell.new.crowd.subjects) given c.cycle_on.ensures.subjects c.tell.ensures.subjects

pub returns-in-Err-clause-cut : goal.returns-in-Err-clause-cut
returns-in-Err-clause-cut g c = λ setup earlier later follows.
    subst (λ (counters : List Counter). (c.in-Err.cut.late ≤ length later) × WhereTold (tells (g.O.Sink.held c.args.sink.now) c.args.self.now.lines.block) (g.O.Sink.held c.add_on.new.sink) (λ before after. (start : List ℕ) → before ≡ start ++ log_of setup (earlier ++ later)
    → IsCutAt setup ((earlier ++ later) ++ with_counters counters c.args.input.now ∷ []) (length (earlier ++ later) - c.in-Err.cut.late) start after)) (c.readings.ensures.readings ∙ c.cycle_on.ensures.readings)
    (c.in-Err.ensures.cut setup earlier later follows)
