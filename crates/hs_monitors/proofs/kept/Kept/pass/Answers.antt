use Rattle.std.proofs.Common.{sym, ◌∙◌}
use Rattle.hs_monitors.proofs.Passing.{kept_passes}
use Rattle.hs_monitors.proofs.kept.Kept.pass.Goals as goal

pub returns-then-is_empty : goal.returns-then-is_empty
returns-then-is_empty c = λ checks stood. kept_passes c.args.apps.now checks c.args.counters.now (sym c.is_empty.ensures ∙ c.if-is_empty.true) c.args.self.now stood c.requires
