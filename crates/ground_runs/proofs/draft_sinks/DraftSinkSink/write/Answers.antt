use Rattle.std.proofs.Common.{take, Ok}
use Rattle.fsw_outside.specs.TallyLaws.{writes_are_tallied}
use Rattle.fsw_outside.specs.declared.traits.Failed.{Failed}
use Rattle.ground_runs.proofs.DraftLemmas.{counted, grown}
use Rattle.ground_runs.proofs.draft_sinks.DraftSinkSink.write.Goals as goal

pub returns-in-Ok-eq0-clause-cause : goal.returns-in-Ok-eq0-clause-cause
returns-in-Ok-eq0-clause-cause g c = counted g.W.DraftTeller.are_told c.args.self.now.faults c.fail.new.self.faults (g.W.Draft.Write.contents c.fail.new.self.draft) c.fail.result c.fail.ensures.faults c.fail.ensures.later

pub returns-in-Ok-flush-clause-tally : goal.returns-in-Ok-flush-clause-tally
returns-in-Ok-flush-clause-tally g c =
    writes_are_tallied {E = Failed} (Ok c.in-Ok.count) c.args.piece.now _ _
    (grown g.W.DraftTeller.are_told c.args.self.now.faults (g.W.Draft.Write.contents c.args.self.now.draft) (g.W.Draft.Write.contents c.write.new.self) (g.W.Draft.Write.contents c.flush.new.self)
    (take c.in-Ok.count c.args.piece.now) (g.met.W.DraftTeller.tells c.args.self.now.draft) c.in-Ok.ensures.bytes c.in-Ok-flush.ensures.bytes)

pub returns-in-Err-clause-cause : goal.returns-in-Err-clause-cause
returns-in-Err-clause-cause g c = counted g.W.DraftTeller.are_told c.args.self.now.faults c.fail-in-Err.new.self.faults (g.W.Draft.Write.contents c.fail-in-Err.new.self.draft) c.fail-in-Err.result c.fail-in-Err.ensures.faults c.fail-in-Err.ensures.later
