use Rattle.std.proofs.Common.{◌∙◌, sym}
use Rattle.cs_slices.specs.Happenings.{slices_since}
use Rattle.cs_slices.specs.Orders.{table_of}
use Rattle.cs_slices.proofs.Passes.{check_first, check_more}
use Rattle.cs_slices.proofs.passing.Passing.check_after.Goals as goal

pub returns-then-from-eq0 : goal.returns-then-from-eq0
returns-then-from-eq0 c = λ happened s stood same from at are.
    check_first c.args.place c.crc16.result (slices_since (table_of c.args.place) happened) s c.args.bytes.now same (from ∙ c.if-from-eq0.true) are c.crc16.ensures

pub returns : goal.returns
returns c = λ happened s stood same from at are.
    check_more c.args.place c.crc16-2.result happened s c.args.bytes.now c.args.self.now stood same (λ zero. c.if-from-eq0.false (sym from ∙ zero)) (from ∙ at) are c.crc16-2.ensures
