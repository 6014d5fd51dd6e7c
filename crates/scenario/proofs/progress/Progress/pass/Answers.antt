use Rattle.std.proofs.Common.{◌+◌, ap}
use Rattle.scenario.proofs.progress.Progress.pass.Goals as goal

pub returns-in-Some-clause-follows : goal.returns-in-Some-clause-follows
returns-in-Some-clause-follows c = λ old line f.
    rw c.in-Some.is (c.say.ensures.follows (record old { lines = old.lines + 1; bytes = old.bytes + c.args.takes }) (record {
      place = f.place;
      epoch = f.epoch;
      regions = f.regions;
      header = f.header;
      frame = f.frame;
      ticks = f.ticks;
      lines = ap (λ n. n + 1) f.lines;
      bytes = ap (λ n. n + c.args.takes) f.bytes;
    }))
