use Rattle.std.proofs.Common.{take}
use Rattle.app_suite.specs.Holding.{AreHeld}
use Rattle.app_suite.proofs.holds.Holds.of.Given as goal

-- the applications so far are held
abbrev pub invariant-held : goal.invariant-held
invariant-held l = AreHeld (take l.app-index l.held) l.holds
