use Rattle.std.proofs.Common.{◌∙◌, sym}
use Rattle.cs_slices.proofs.Passes.{stands_turned, stands_kept}
use Rattle.cs_slices.proofs.passing.Passing.obey.Goals as goal

pub returns-then-turns_off : goal.returns-then-turns_off
returns-then-turns_off c = λ happened stood.
    stands_turned happened _ c.args.self.now _ stood (sym c.turns_off.ensures ∙ c.if-turns_off.true) c.abandon.ensures.place c.abandon.ensures.offset c.abandon.ensures.check

pub returns-else-turns_off : goal.returns-else-turns_off
returns-else-turns_off c = λ happened stood. stands_kept happened _ c.args.self.now stood (sym c.turns_off.ensures ∙ c.if-turns_off.false)
