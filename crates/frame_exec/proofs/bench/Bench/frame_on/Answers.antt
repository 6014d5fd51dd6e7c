use Rattle.std.proofs.Common.{ℕ, ◌+◌, List, ◌++◌, ◌∙◌, ap, subst, arith}
use Rattle.frame_exec.specs.declared.lines.Lines.{Lines}
use Rattle.active_tables.specs.Tables.{Loaded}
use Rattle.frame_exec.specs.declared.memory.Memory.{Memory as BenchMemory}
use Rattle.frame_runs.specs.Runs.{run_of}
use Rattle.frame_runs.specs.Crowds.{with_counters}
use Rattle.fsw_outside.specs.Written.{AppendsPart}
use Rattle.fsw_outside.specs.TellingLaws.{told_map}
use Rattle.frame_exec.proofs.Behind.{not_noted}
use Rattle.frame_exec.proofs.Frames.{has_next, ready_next, can_land_still, upsets_mapped, time_fits, has_given}
use Rattle.frame_runs.proofs.Frames.{activated_image, lines_are}
use Rattle.frame_exec.proofs.bench.Bench.frame_on.Goals as goal

pub run-lines-requires-clause-time : goal.run-lines-requires-clause-time
run-lines-requires-clause-time g c = λ _ _.
    let s = c.requires.started in
    let fits = time_fits c.args.self.now s.0 s.1 c.args.input.now s.2.epoch s.2.has s.3 in
    omega (arith, fits)

pub run-lines-requires-clause-upsets : goal.run-lines-requires-clause-upsets
run-lines-requires-clause-upsets g c = λ _ _. let s = c.requires.started in upsets_mapped c.args.self.now s.0 s.1 c.args.input.now s.2.has s.3

pub write-requires : goal.write-requires
write-requires g c =
    let s = c.requires.started in
    let fits = time_fits c.args.self.now s.0 s.1 c.args.input.now s.2.epoch s.2.has s.3 in
    let same = c.run-lines.ensures.run.number in
    record { number = omega (arith, fits, same); none = ap (λ (l : Lines). l.block) c.run-lines.ensures.run.lines ∙ s.2.waits; silent = c.run-lines.ensures.silent }

pub land-requires-clause-number : goal.land-requires-clause-number
land-requires-clause-number g c =
    let s = c.requires.started in
    let fits = time_fits c.args.self.now s.0 s.1 c.args.input.now s.2.epoch s.2.has s.3 in
    let number = c.in-Ok.ensures.same.number ∙ c.run-lines.ensures.run.number in
    λ _ _. omega (arith, fits, number)

pub land-requires-clause-can_land : goal.land-requires-clause-can_land
land-requires-clause-can_land g c = λ _ _. can_land_still c.run-lines.new.self c.write.new.self c.in-Ok.ensures.same c.run-lines.ensures.can_land

pub reset_if_asked-requires-clause-time : goal.reset_if_asked-requires-clause-time
reset_if_asked-requires-clause-time g c =
    let s = c.requires.started in
    let fits = time_fits c.args.self.now s.0 s.1 c.args.input.now s.2.epoch s.2.has s.3 in
    let same = c.in-Ok.ensures.same in
    let epoch = c.land.ensures.epoch ∙ same.epoch ∙ c.run-lines.ensures.run.epoch in
    let number = c.land.ensures.number ∙ ap (λ (n : ℕ). n + 1) (same.number ∙ c.run-lines.ensures.run.number) in
    omega (arith, fits, epoch, number)

pub reset_if_asked-requires-clause-ready : goal.reset_if_asked-requires-clause-ready
reset_if_asked-requires-clause-ready g c =
    let s = c.requires.started in
    ready_next c.run-lines.new.self c.write.new.self c.land.new.self s.0 s.1 c.args.input.now c.in-Ok.ensures.same c.land.ensures c.run-lines.ensures.ready

pub returns-in-Ok-clause-lines : goal.returns-in-Ok-clause-lines
returns-in-Ok-clause-lines g c = λ setup frames stands.
    let r = c.run-lines.ensures.runs setup (run_of setup frames) stands.epoch stands.files stands.has in
    let frame = with_counters c.args.counters.now c.args.input.now in
    let lines = lines_are setup frames frame c.run-lines.new.self.number _ c.run-lines.new.self.wires.drops.items (c.run-lines.ensures.run.number ∙ stands.has.number) r.sent r.drops in
    told_map c.in-Ok.ensures.content (λ before after written. written ∙ ap (λ (bytes : List ℕ). before ++ bytes) lines)

pub returns-in-Ok-clause-stands : goal.returns-in-Ok-clause-stands
returns-in-Ok-clause-stands g c = λ setup frames stands.
    let run = c.run-lines.ensures.run in
    let same = c.in-Ok.ensures.same in
    let goes = c.reset_if_asked.ensures.anew.goes in
    record {
      epoch = goes.epoch ∙ c.land.ensures.epoch ∙ same.epoch ∙ run.epoch ∙ stands.epoch;
      files = goes.files ∙ ap (λ (t : Loaded). t.files) (c.land.ensures.tables ∙ same.tables) ∙ run.files ∙ stands.files;
      well = goes.failed ∙ c.land.ensures.failed ∙ same.failed ∙ run.failed ∙ stands.well;
      waits = ap (λ (l : Lines). l.block) (goes.lines ∙ c.land.ensures.lines) ∙ c.in-Ok.ensures.handed;
      has = has_next c.run-lines.new.self c.write.new.self c.land.new.self setup frames (with_counters c.args.counters.now c.args.input.now) same c.land.ensures c.reset_if_asked.new.self c.reset_if_asked.ensures.anew (run.epoch ∙ stands.epoch) (run.files ∙ stands.files) (run.number ∙ stands.has.number)
          (c.run-lines.ensures.runs setup (run_of setup frames) stands.epoch stands.files stands.has);
      ready = c.reset_if_asked.ensures.ready;
      idle = not_noted _ (c.reset_if_asked.ensures.anew.idle ∙ c.land.ensures.idle);
    }

pub returns-in-Err-clause-interrupted : goal.returns-in-Err-clause-interrupted
returns-in-Err-clause-interrupted g c = λ setup frames stands. record { memory = ap (λ (m : BenchMemory). m.ram) c.in-Err.ensures.same.memory ∙ (c.run-lines.ensures.runs setup (run_of setup frames) stands.epoch stands.files stands.has).memory ∙ activated_image setup (run_of setup frames) (with_counters c.args.counters.now c.args.input.now) }

pub returns-in-Err-clause-lines : goal.returns-in-Err-clause-lines
returns-in-Err-clause-lines g c = λ setup frames stands.
    let r = c.run-lines.ensures.runs setup (run_of setup frames) stands.epoch stands.files stands.has in
    let frame = with_counters c.args.counters.now c.args.input.now in
    let lines = lines_are setup frames frame c.run-lines.new.self.number _ c.run-lines.new.self.wires.drops.items (c.run-lines.ensures.run.number ∙ stands.has.number) r.sent r.drops in
    told_map c.in-Err.ensures.content (λ before after part. subst (λ (bytes : List ℕ). AppendsPart bytes before after) lines part)

pub returns-in-Ok-clause-given : goal.returns-in-Ok-clause-given
returns-in-Ok-clause-given g c = λ setup frames stands.
    has_given c.run-lines.new.self c.write.new.self c.land.new.self c.reset_if_asked.new.self setup frames (with_counters c.args.counters.now c.args.input.now) c.in-Ok.ensures.same c.land.ensures c.reset_if_asked.ensures.anew
    (c.run-lines.ensures.runs setup (run_of setup frames) stands.epoch stands.files stands.has)
