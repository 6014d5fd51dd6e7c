use Rattle.ground_summaries.proofs.UnwantedLemmas.{unwanted_line}
use Rattle.ground_summaries.proofs.allowed.push_unless_allowed.Goals as goal

pub returns : goal.returns
returns c =
    unwanted_line c.push_counted.result c.args.allowed.now c.args.counted.now c.args.out.now.items c.extend_from_slice.new.self.items c.push_allow.new.out.items c.extend_from_slice-2.new.self.items c.push_counted.new.out.items
    c.if-is_allowed.ensures c.in_ok-extend_from_slice.ensures.items c.in_ok-push_allow.ensures c.in_ok-extend_from_slice-2.ensures.items c.push_counted.ensures
