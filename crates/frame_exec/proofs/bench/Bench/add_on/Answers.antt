use Rattle.std.proofs.Common.{ℕ, ◌+◌, ◌++◌, length, sym, ap, ◌∙◌, subst, arith}
use Rattle.std.specs.Prelude.{Err}
use Rattle.fsw_outside.specs.declared.traits.Failed.{Failed}
use Rattle.frame_exec.specs.Stages.{lines_in}
use Rattle.frame_exec.specs.declared.lines.Lines.{Lines}
use Rattle.active_tables.specs.Tables.{Loaded}
use Rattle.frame_runs.specs.Runs.{run_of}
use Rattle.frame_runs.specs.Crowds.{with_counters}
use Rattle.packet_log.specs.Blocks.{Waiting, Notes, ends_from, joined}
use Rattle.frame_exec.specs.Following.{lines_behind, Adds}
use Rattle.frame_exec.proofs.Frames.{has_next, ready_next, can_land_still, upsets_mapped, time_fits, has_given}
use Rattle.frame_runs.proofs.Frames.{lines_are}
use Rattle.frame_exec.proofs.Behind.{follows_next, cut_added, told_added, not_noted}
use Rattle.frame_exec.proofs.bench.Bench.add_on.Goals as goal

pub run-lines-requires-clause-time : goal.run-lines-requires-clause-time
run-lines-requires-clause-time g c = λ _ _.
    let s = c.requires.started in
    let fits = time_fits c.args.self.now s.0 (s.1 ++ s.2) c.args.input.now s.3.epoch s.3.has s.4 in
    omega (arith, fits)

pub run-lines-requires-clause-upsets : goal.run-lines-requires-clause-upsets
run-lines-requires-clause-upsets g c = λ _ _. let s = c.requires.started in upsets_mapped c.args.self.now s.0 (s.1 ++ s.2) c.args.input.now s.3.has s.4

pub add_lines-requires : goal.add_lines-requires
add_lines-requires g c =
    let s = c.requires.started in
    let fits = time_fits c.args.self.now s.0 (s.1 ++ s.2) c.args.input.now s.3.epoch s.3.has s.4 in
    let same = c.run-lines.ensures.run.number in
    record { number = omega (arith, fits, same); silent = c.run-lines.ensures.silent }

pub land-requires-clause-number : goal.land-requires-clause-number
land-requires-clause-number g c =
    let s = c.requires.started in
    let fits = time_fits c.args.self.now s.0 (s.1 ++ s.2) c.args.input.now s.3.epoch s.3.has s.4 in
    let number = c.in-Ok.ensures.same.number ∙ c.run-lines.ensures.run.number in
    λ _ _. omega (arith, fits, number)

pub land-requires-clause-can_land : goal.land-requires-clause-can_land
land-requires-clause-can_land g c = λ _ _. can_land_still c.run-lines.new.self c.add_lines.new.self c.in-Ok.ensures.same c.run-lines.ensures.can_land

pub reset_if_asked-requires-clause-time : goal.reset_if_asked-requires-clause-time
reset_if_asked-requires-clause-time g c =
    let s = c.requires.started in
    let fits = time_fits c.args.self.now s.0 (s.1 ++ s.2) c.args.input.now s.3.epoch s.3.has s.4 in
    let same = c.in-Ok.ensures.same in
    let epoch = c.land.ensures.epoch ∙ same.epoch ∙ c.run-lines.ensures.run.epoch in
    let number = c.land.ensures.number ∙ ap (λ (n : ℕ). n + 1) (same.number ∙ c.run-lines.ensures.run.number) in
    omega (arith, fits, epoch, number)

pub reset_if_asked-requires-clause-ready : goal.reset_if_asked-requires-clause-ready
reset_if_asked-requires-clause-ready g c =
    let s = c.requires.started in
    ready_next c.run-lines.new.self c.add_lines.new.self c.land.new.self s.0 (s.1 ++ s.2) c.args.input.now c.in-Ok.ensures.same c.land.ensures c.run-lines.ensures.ready

pub returns-in-Ok-clause-follows : goal.returns-in-Ok-clause-follows
returns-in-Ok-clause-follows g c = λ setup earlier later follows.
    let run = c.run-lines.ensures.run in
    let same = c.in-Ok.ensures.same in
    let r = c.run-lines.ensures.runs setup (run_of setup (earlier ++ later)) follows.epoch follows.files follows.has in
    let frame = with_counters c.args.counters.now c.args.input.now in
    let lines = lines_are setup (earlier ++ later) frame c.run-lines.new.self.number _ c.run-lines.new.self.wires.drops.items (run.number ∙ follows.has.number) r.sent r.drops in
    let goes = c.reset_if_asked.ensures.anew.goes in
    follows_next c.reset_if_asked.new.self setup earlier later frame _ c.run-lines.new.self.lines.block c.add_lines.new.self.lines.block _ _
    (goes.epoch ∙ c.land.ensures.epoch ∙ same.epoch ∙ run.epoch ∙ follows.epoch) (goes.files ∙ ap (λ (t : Loaded). t.files) (c.land.ensures.tables ∙ same.tables) ∙ run.files ∙ follows.files) (goes.failed ∙ c.land.ensures.failed ∙ same.failed ∙ run.failed ∙ follows.well)
    (has_next c.run-lines.new.self c.add_lines.new.self c.land.new.self setup (earlier ++ later) frame same c.land.ensures c.reset_if_asked.new.self c.reset_if_asked.ensures.anew (run.epoch ∙ follows.epoch) (run.files ∙ follows.files) (run.number ∙ follows.has.number) r)
    c.reset_if_asked.ensures.ready (not_noted _ (c.reset_if_asked.ensures.anew.idle ∙ c.land.ensures.idle))
    (ap (λ (l : Lines). l.block) (goes.lines ∙ c.land.ensures.lines)) lines
    (subst (Notes (ends_from 0 (lines_behind setup earlier later)) (length (joined (lines_behind setup earlier later)))) (sym (ap (λ (l : Lines). l.block) run.lines)) follows.notes) c.in-Ok.ensures.adds

pub returns-in-Ok-clause-told : goal.returns-in-Ok-clause-told
returns-in-Ok-clause-told g c = λ setup earlier later follows.
    let r = c.run-lines.ensures.runs setup (run_of setup (earlier ++ later)) follows.epoch follows.files follows.has in
    let frame = with_counters c.args.counters.now c.args.input.now in
    let lines = lines_are setup (earlier ++ later) frame c.run-lines.new.self.number _ c.run-lines.new.self.wires.drops.items (c.run-lines.ensures.run.number ∙ follows.has.number) r.sent r.drops in
    told_added _ _ c.args.self.now.lines.block c.run-lines.new.self.lines.block c.add_lines.new.self.lines.block c.reset_if_asked.new.self.lines.block _ _ lines (ap (λ (l : Lines). l.block) c.run-lines.ensures.run.lines) (ap (λ (l : Lines). l.block) (c.reset_if_asked.ensures.anew.goes.lines ∙ c.land.ensures.lines)) c.in-Ok.ensures.adds

pub returns-in-Err-clause-cut : goal.returns-in-Err-clause-cut
returns-in-Err-clause-cut g c = λ setup earlier later follows.
    let r = c.run-lines.ensures.runs setup (run_of setup (earlier ++ later)) follows.epoch follows.files follows.has in
    let frame = with_counters c.args.counters.now c.args.input.now in
    let lines = lines_are setup (earlier ++ later) frame c.run-lines.new.self.number _ c.run-lines.new.self.wires.drops.items (c.run-lines.ensures.run.number ∙ follows.has.number) r.sent r.drops in
    cut_added {E = Failed} c.in-Err.field-0 setup earlier later frame (lines_in c.run-lines.new.self) c.args.self.now.lines.block c.add_lines.new.self.lines.block (g.O.Sink.held c.args.sink.now) (g.O.Sink.held c.add_lines.new.sink) c.cut.result.late
    lines follows.notes
    (subst (λ (block : Waiting). Adds {E = Failed} (Err c.in-Err.field-0) (lines_in c.run-lines.new.self) block c.add_lines.new.self.lines.block (g.O.Sink.held c.args.sink.now) (g.O.Sink.held c.add_lines.new.sink)) (ap (λ (l : Lines). l.block) c.run-lines.ensures.run.lines) c.in-Err.ensures.adds)
    c.cut.ensures.late

pub returns-in-Ok-clause-given : goal.returns-in-Ok-clause-given
returns-in-Ok-clause-given g c = λ setup earlier later follows.
    has_given c.run-lines.new.self c.add_lines.new.self c.land.new.self c.reset_if_asked.new.self setup (earlier ++ later) (with_counters c.args.counters.now c.args.input.now) c.in-Ok.ensures.same c.land.ensures c.reset_if_asked.ensures.anew
    (c.run-lines.ensures.runs setup (run_of setup (earlier ++ later)) follows.epoch follows.files follows.has)
