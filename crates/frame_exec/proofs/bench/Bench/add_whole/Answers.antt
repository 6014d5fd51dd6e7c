use Rattle.std.proofs.Common.{◌≡◌, ◌++◌, ◌∷◌, [], ℕ, ◌-◌, ◌≤◌, List, length, subst}
use Rattle.fsw_outside.specs.Told.{WhereTold}
use Rattle.packet_forms.specs.declared.name.Counter.{Counter}
use Rattle.packet_log.specs.Blocks.{tells}
use Rattle.frame_runs.specs.Runs.{frame_lines, log_of}
use Rattle.frame_runs.specs.Crowds.{with_counters}
use Rattle.frame_exec.specs.Following.{Follows, IsCutAt}
use Rattle.frame_exec.proofs.Counting.{follows_noted}
use Rattle.frame_exec.proofs.bench.Bench.add_whole.Goals as goal

-- the frame's own counters are those that it was run on
pub returns-in-Ok-clause-adds : goal.returns-in-Ok-clause-adds
returns-in-Ok-clause-adds g c = λ setup earlier later follows. record {
  follows = follows_noted c.add_on.new.self _ _ _ _ _ setup earlier _ c.is_idle_behind-self.ensures
      (subst (λ (counters : List Counter). Follows c.add_on.new.self setup earlier (later ++ with_counters counters c.args.input.now ∷ [])) c.counters.ensures.value (c.in-Ok.ensures.follows setup earlier later follows));
  told = subst (λ (counters : List Counter). WhereTold (tells (g.O.Sink.held c.args.sink.now) c.args.self.now.lines.block) (tells (g.O.Sink.held c.add_on.new.sink) c.add_on.new.self.lines.block)
      (λ before after. after ≡ before ++ frame_lines setup (earlier ++ later) (with_counters counters c.args.input.now))) c.counters.ensures.value (c.in-Ok.ensures.told setup earlier later follows);
  cut = tt;
}

pub returns-in-Err-clause-adds : goal.returns-in-Err-clause-adds
returns-in-Err-clause-adds g c = λ setup earlier later follows. record {
  follows = tt;
  told = tt;
  cut = subst (λ (counters : List Counter). (c.in-Err.cut.late ≤ length later) × WhereTold (tells (g.O.Sink.held c.args.sink.now) c.args.self.now.lines.block) (g.O.Sink.held c.add_on.new.sink) (λ before after. (start : List ℕ) → before ≡ start ++ log_of setup (earlier ++ later)
      → IsCutAt setup ((earlier ++ later) ++ with_counters counters c.args.input.now ∷ []) (length (earlier ++ later) - c.in-Err.cut.late) start after)) c.counters.ensures.value (c.in-Err.ensures.cut setup earlier later follows);
}
