use Rattle.std.proofs.Common.{◌≡◌, ◌-◌, length, drop, length-drop, ◌∙◌, arith}
use Rattle.lc_watch.specs.Newest.{up_to_newest}
use Rattle.lc_watch.proofs.Noting.{up_to_within}
use Rattle.lc_watch.proofs.newest.Newest.up_to.Goals as goal

pub returns-clause-within : goal.returns-clause-within
returns-clause-within c =
    let noted = drop c.args.self.now.before c.args.telemetry.now in
    let is : c.from.result ≡ up_to_newest c.slot_of.result noted = c.from.ensures ∙ c.requires.noted.each c.slot_of.result c.slot_of.ensures.within in
    let few = up_to_within c.slot_of.result noted in
    let left : length noted ≡ length c.args.telemetry.now - c.args.self.now.before = length-drop c.args.self.now.before c.args.telemetry.now in
    let within = c.requires.within in
    omega (arith, is, few, left, within)
