use Rattle.std.proofs.Common.{arith, rules, tests}
use Rattle.std.proofs.lemmas.Iterator.{cases_from_all, YieldsList-from_zip, YieldsList-from_slice}
use Rattle.ground_differences.proofs.SameLemmas.{TellSame, same_by_pairs}
use Rattle.ground_differences.proofs.same_lines.is_same_frame.Goals as goal

pub returns-then-ones-others : goal.returns-then-ones-others
returns-then-ones-others c =
    same_by_pairs c.all.result c.args.ones.now c.args.others.now (omega arith)
    (cases_from_all c.all.new.self _ c.all.result TellSame (λ lines. ¬ TellSame lines) c.all.ensures.ran
    (YieldsList-from_zip (YieldsList-from_slice c.args.ones.now (cc)) (YieldsList-from_slice c.args.others.now (cc)))
    (λ x q k. search (rules, tests)) (λ x q k. search (rules, tests)))
