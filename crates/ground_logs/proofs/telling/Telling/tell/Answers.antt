use Rattle.std.proofs.Common.{◌≡◌, ℕ, List, Some, subst}
use Rattle.std.specs.Prelude.{IfOk}
use Rattle.ground_logs.specs.Making.{IsMadeOf}
use Rattle.ground_logs.specs.Told.{IsSentence}
use Rattle.ground_logs.proofs.telling.Telling.tell.Goals as goal

pub returns : goal.returns
returns g c =
    subst (λ epoch. IfOk c.make.result (λ whole. (text : List ℕ) → g.R.Read.remaining c.args.log.now ≡ Some text
    → IsMadeOf (IsSentence epoch) text whole (g.W.Write.contents c.args.out.now) (g.W.Write.contents c.make.new.out))) c.new.ensures c.make.ensures
