use Rattle.std.proofs.Common.{◌≡◌, ℕ, ◌+◌, ◌-◌, List, ◌++◌, IsTrue}
use Rattle.fsw_outside.specs.Told.{WhereTold}
use Rattle.fsw_outside.specs.Files.{Content}
use Rattle.packet_log.specs.Blocks.{tells}
use Rattle.scenario.specs.Texts.{Text, Given}
use Rattle.frame_exec.specs.Beside.{crowd_in}
use Rattle.frame_exec.specs.Standing.{waiting_in}
use Rattle.rehearsal.specs.Text.{IsRead, Holds, work_left}
use Rattle.rehearsal.specs.Outcome.{log_in}
use Rattle.rehearsal.specs.Run.{Begins}
use Rattle.rehearsal.proofs.Running.{HasRun}
use Rattle.rehearsal.proofs.run.run_frames.Given as goal

-- the frames that were given were run, their log was handed on or waits, the crowd is as they left it, and no fault came
abbrev pub invariant-frames : goal.invariant-frames
invariant-frames g l =
    let source = g.S.Source in
    let sink = g.O.Sink in
    record {
      opened : IsTrue (source.is_open l.source);
      ran : (files : List (List ℕ)) (text : Text) (gave : List Given) → Holds l.initial.reader l.initial.feed text gave → Begins l.initial.bench files gave
          → (now : Text) × (got : List Given) × HasRun files (crowd_in g.C.Subject.seen l.initial.crowd) l.bench (crowd_in g.C.Subject.seen l.crowd) l.reader l.feed l.frames now got
          × WhereTold (source.told l.initial.source) (source.told l.source) (λ before after. (start : Content) → IsRead text l.initial.feed.pending start before → IsRead now l.feed.pending start after)
          × WhereTold (sink.held l.initial.out) (tells (sink.held l.out) (waiting_in l.bench)) (λ old new. new ≡ old ++ log_in files (crowd_in g.C.Subject.seen l.initial.crowd) got);
      read_well : source.faults l.source ≡ source.faults l.initial.source;
      wrote_well : sink.faults l.out ≡ sink.faults l.initial.out;
      mark : source.mark l.source ≡ source.mark l.initial.source;
    }

abbrev pub decreases-frames : goal.decreases-frames
decreases-frames g l = (100000 - l.frames) + work_left l.reader l.feed
