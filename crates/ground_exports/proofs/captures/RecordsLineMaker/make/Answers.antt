use Rattle.std.proofs.Common.{ap}
use Rattle.ground_exports.specs.Records.{record_of}
use Rattle.ground_exports.proofs.captures.RecordsLineMaker.make.Goals as goal

pub returns : goal.returns
returns c = (_, c.in_ok-put_line.ensures, ap (λ seconds. record_of seconds c.args.line.now.item) c.second_of.ensures)
