use Rattle.std.proofs.Common.{◌++◌, ◌∷◌, [], Ok, sym, subst, take, append-nil}
use Rattle.log_lines.specs.Logs.{log_said, given, Stands as ReaderStands}
use Rattle.ground_tools.specs.Noted.{item_noted}
use Rattle.ground_tools.specs.Surveys.{notables_in, AreAlike}
use Rattle.ground_tools.proofs.SurveyLemmas.{surveys_on, alike_none}
use Rattle.ground_tools.proofs.survey.Survey.take_line.Goals as goal

pub returns-in-More-clause-surveys : goal.returns-in-More-clause-surveys
returns-in-More-clause-surveys c = λ log s.
    surveys_on c.args.self.now _ log (take c.feed-fed.result.taken c.args.piece.now) (given c.feed-fed.result.answer c.feed-fed.new.said) s
    (c.feed-fed.ensures.stands log (log_said log) s.reader) (rw c.in-More.is (alike_none c.args.self.now.notables.items))

pub returns-in_ok-note-in-Line-clause-surveys : goal.returns-in_ok-note-in-Line-clause-surveys
returns-in_ok-note-in-Line-clause-surveys c = λ log s.
    let line = c.feed-fed.new.said in
    let more = take c.feed-fed.result.taken c.args.piece.now in
    surveys_on c.args.self.now c.note.new.self log more (Ok line ∷ []) s
    (subst (λ r. ReaderStands r (log ++ more) (log_said log ++ Ok line ∷ [])) (sym c.in_ok-note-in-Line.ensures.reader)
    (subst (λ answer. ReaderStands c.feed-fed.new.self (log ++ more) (log_said log ++ given answer line)) c.in-Line.is (c.feed-fed.ensures.stands log (log_said log) s.reader)))
    (subst (λ noted. AreAlike (notables_in c.note.new.self.notables.items) (notables_in c.args.self.now.notables.items ++ noted)) (sym (append-nil (item_noted line.item))) c.in_ok-note-in-Line.ensures.notables)

pub returns-in-Fault-clause-surveys : goal.returns-in-Fault-clause-surveys
returns-in-Fault-clause-surveys c = λ log s.
    surveys_on c.args.self.now _ log (take c.feed-fed.result.taken c.args.piece.now) (given c.feed-fed.result.answer c.feed-fed.new.said) s
    (c.feed-fed.ensures.stands log (log_said log) s.reader) (rw c.in-Fault.is (alike_none c.args.self.now.notables.items))
