use Rattle.std.proofs.Common.{◌++◌, refl, subst, take}
use Rattle.log_lines.specs.Logs.{given, Stands as ReaderStands}
use Rattle.ground_logs.proofs.MakingLemmas.{takes_nothing, takes_line, and_true, and_false}
use Rattle.ground_logs.proofs.log_maker.LogMaker.step.Goals as goal

pub returns-in-More-clause-made : goal.returns-in-More-clause-made
returns-in-More-clause-made g c =
    takes_nothing g.M.LineMaker.makes _ _ (take c.feed-fed.result.taken c.args.piece.now) c.args.out.now.items (given c.feed-fed.result.answer c.feed-fed.new.said)
    refl (rw c.in-More.is (and_true c.args.self.now.is_whole)) c.feed-fed.ensures.stands (rw c.in-More.is refl)

pub returns-in_ok-make-in-Line-clause-made : goal.returns-in_ok-make-in-Line-clause-made
returns-in_ok-make-in-Line-clause-made g c =
    takes_line g.M.LineMaker.makes _ _ (take c.feed-fed.result.taken c.args.piece.now) _ _ c.feed-fed.new.said
    refl (and_true c.args.self.now.is_whole)
    (λ text gave s. subst (λ answer. ReaderStands c.feed-fed.new.self (text ++ take c.feed-fed.result.taken c.args.piece.now) (gave ++ given answer c.feed-fed.new.said)) c.in-Line.is
    (c.feed-fed.ensures.stands text gave s))
    c.in_ok-make-in-Line.ensures

pub returns-in-Fault-clause-made : goal.returns-in-Fault-clause-made
returns-in-Fault-clause-made g c =
    takes_nothing g.M.LineMaker.makes _ _ (take c.feed-fed.result.taken c.args.piece.now) c.args.out.now.items (given c.feed-fed.result.answer c.feed-fed.new.said)
    refl (rw c.in-Fault.is (and_false c.args.self.now.is_whole)) c.feed-fed.ensures.stands (rw c.in-Fault.is refl)
