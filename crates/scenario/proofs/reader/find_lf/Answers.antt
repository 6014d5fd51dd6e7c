use Rattle.std.specs.Prelude.{◌==◌}
use Rattle.scenario.proofs.FirstLemmas.{first_is, near_is}
use Rattle.scenario.proofs.reader.find_lf.Goals as goal

pub returns-then-at-lt-NEAR : goal.returns-then-at-lt-NEAR
returns-then-at-lt-NEAR c = near_is (λ b. b == 10) c.args.bytes.now 64 c.near_lf-at.result c.if-bytes-ge-NEAR.true c.near_lf-at.ensures c.if-at-lt-NEAR.true

pub returns : goal.returns
returns c = first_is (λ b. b == 10) c.args.bytes.now c.memchr.result c.memchr.ensures
