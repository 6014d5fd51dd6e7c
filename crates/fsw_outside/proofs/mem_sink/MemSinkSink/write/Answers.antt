use Rattle.std.proofs.Common.{◌≡◌, ◌++◌, take, Ok, rules}
use Rattle.fsw_outside.specs.Bytes.{Writes}
use Rattle.fsw_outside.specs.Memory.{can_rise}
use Rattle.fsw_outside.specs.TallyLaws.{writes_are_tallied}
use Rattle.fsw_outside.specs.declared.traits.Failed.{Failed}
use Rattle.fsw_outside.proofs.Sinks.{told_both}
use Rattle.fsw_outside.proofs.mem_sink.MemSinkSink.write.Goals as goal

pub returns-clause-tally : goal.returns-clause-tally
returns-clause-tally c =
    let grown : c.extend_from_slice.new.self.items ≡ c.args.self.now.bytes.items ++ take c.min-count.result c.args.piece.now = search rules in
    writes_are_tallied {E = Failed} (Ok c.min-count.result) c.args.piece.now _ _
    (told_both (can_rise c.args.self.now.faults) c.args.self.now.bytes.items c.extend_from_slice.new.self.items (Writes {E = Failed} (Ok c.min-count.result) c.args.piece.now) grown)
