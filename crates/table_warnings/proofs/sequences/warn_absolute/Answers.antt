use Rattle.std.proofs.Common.{◌≡◌, ◌<◌, ℕ, ◌++◌, length, ap, ◌∙◌, arith}
use Rattle.std.specs.Prelude.{flat_map}
use Rattle.std.specs.List.{range_with_len}
use Rattle.sc_tables.specs.Sequences.{timed_commands}
use Rattle.table_warnings.specs.Warned.{absolute_at, absolute_in}
use Rattle.table_warnings.proofs.WarnedLemmas.{end_more, tags_more, absolute_more}
use Rattle.table_warnings.proofs.sequences.warn_absolute.Goals as goal

pub loop-k-preserved : goal.loop-k-preserved
loop-k-preserved c =
    let commands = timed_commands c.args.ats.now in
    let k = c.loop-k.k in
    let inside : k < length commands = omega (arith, c.loop-k-test.true, c.len-k-end.ensures.count) in
    let inv = c.loop-k.invariant in
    let is = c.command-command.ensures in
    record {
      times = c.in_ok-warn_timed.ensures.times ∙ tags_more commands k c.command-command.result c.loop-k.times.items inside is inv.times;
      end = c.end_behind-end.ensures ∙ end_more commands k c.command-command.result c.loop-k.end inside is inv.end;
      told = absolute_more commands k c.command-command.result c.loop-k.end c.loop-k.times.items c.args.warnings.now.items c.loop-k.warnings.items _ inside is inv.end inv.times inv.told c.in_ok-warn_timed.ensures.told;
    }

pub returns : goal.returns
unfolding absolute_in
returns c =
    let commands = timed_commands c.args.ats.now in
    let all : c.loop-k.k ≡ length commands = omega (arith, c.loop-k-test.false, c.loop-k.auto.k-end, c.len-k-end.ensures.count) in
    c.loop-k.invariant.told ∙ ap (λ (k : ℕ). c.args.warnings.now.items ++ flat_map (absolute_at commands) (range_with_len 0 k)) all
