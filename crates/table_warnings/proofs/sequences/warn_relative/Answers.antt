use Rattle.std.proofs.Common.{◌≡◌, ◌<◌, ◌+◌, ℕ, ◌++◌, length, ap, ◌∙◌, arith}
use Rattle.std.specs.Prelude.{flat_map, min}
use Rattle.std.specs.List.{range_with_len}
use Rattle.sc_tables.specs.Sequences.{relative_commands}
use Rattle.table_warnings.specs.Warned.{time_at, relative_at, relative_in}
use Rattle.table_warnings.proofs.WarnedLemmas.{time_more, before_next, times_more, relative_more}
use Rattle.table_warnings.proofs.sequences.warn_relative.Goals as goal

pub loop-k-preserved : goal.loop-k-preserved
loop-k-preserved c =
    let commands = relative_commands c.args.rts.now in
    let k = c.loop-k.k in
    let inside : k < length commands = omega (arith, c.loop-k-test.true, c.len-k-end.ensures.count) in
    let inv = c.loop-k.invariant in
    let is = c.command-command.ensures in
    let time : c.saturating_add-time.result ≡ time_at commands k = c.saturating_add-time.ensures ∙ ap (λ (t : ℕ). min (c.loop-k.time + t) 4294967295) c.from.ensures ∙ time_more commands k c.command-command.result c.loop-k.time inside is inv.time in
    record {
      times = c.in_ok-warn_delayed.ensures.times ∙ times_more commands k c.saturating_add-time.result c.loop-k.times.items time inv.times;
      time = time ∙ before_next commands k;
      told = relative_more c.args.n commands k c.command-command.result c.saturating_add-time.result c.loop-k.times.items c.args.warnings.now.items c.loop-k.warnings.items _ is time inv.times inv.told c.in_ok-warn_delayed.ensures.told;
    }

pub returns : goal.returns
unfolding relative_in
returns c =
    let commands = relative_commands c.args.rts.now in
    let all : c.loop-k.k ≡ length commands = omega (arith, c.loop-k-test.false, c.loop-k.auto.k-end, c.len-k-end.ensures.count) in
    c.loop-k.invariant.told ∙ ap (λ (k : ℕ). c.args.warnings.now.items ++ flat_map (relative_at c.args.n commands) (range_with_len 0 k)) all
