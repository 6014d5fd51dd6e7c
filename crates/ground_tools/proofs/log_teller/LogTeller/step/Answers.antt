use Rattle.std.proofs.Common.{◌++◌, refl, subst, take}
use Rattle.log_lines.specs.Logs.{log_said, given, Stands as ReaderStands}
use Rattle.ground_tools.proofs.TellingLemmas.{told_nothing, told_line}
use Rattle.ground_tools.proofs.log_teller.LogTeller.step.Goals as goal

pub returns-in-More-clause-told : goal.returns-in-More-clause-told
returns-in-More-clause-told c = λ text s.
    told_nothing c.args.self.now _ text c.args.out.now.items (take c.feed-fed.result.taken c.args.piece.now) (given c.feed-fed.result.answer c.feed-fed.new.said)
    (record { vocabulary = refl; epoch = refl }) (c.feed-fed.ensures.stands text (log_said text) s) (rw c.in-More.is refl)

pub returns-in_ok-push-in-Line-clause-told : goal.returns-in_ok-push-in-Line-clause-told
returns-in_ok-push-in-Line-clause-told c = λ text s.
    rw c.in_ok-push-in-Line.ensures.items
    (told_line c.args.self.now _ text c.args.out.now.items (take c.feed-fed.result.taken c.args.piece.now) c.show_line.new.out.items c.feed-fed.new.said
    (record { vocabulary = refl; epoch = refl })
    (subst (λ answer. ReaderStands c.feed-fed.new.self (text ++ take c.feed-fed.result.taken c.args.piece.now) (log_said text ++ given answer c.feed-fed.new.said)) c.in-Line.is
    (c.feed-fed.ensures.stands text (log_said text) s))
    c.in_ok-show_line-in-Line.ensures)

pub returns-in-Fault-clause-told : goal.returns-in-Fault-clause-told
returns-in-Fault-clause-told c = λ text s.
    told_nothing c.args.self.now _ text c.args.out.now.items (take c.feed-fed.result.taken c.args.piece.now) (given c.feed-fed.result.answer c.feed-fed.new.said)
    (record { vocabulary = refl; epoch = refl }) (c.feed-fed.ensures.stands text (log_said text) s) (rw c.in-Fault.is refl)
