use Rattle.std.specs.Prelude.{codes, decimal}
use Rattle.events.proofs.EventLemmas.{twice_put}
use Rattle.events.proofs.event.push_sentence.Goals as goal

pub returns-in_ok-push_numbered-in-None : goal.returns-in_ok-push_numbered-in-None
returns-in_ok-push_numbered-in-None c = rw c.in-None.is (twice_put c.push_numbered-in-None.result c.args.out.now.items c.push_numbered.new.out.items c.push_numbered-in-None.new.out.items (codes ": unknown event ") (decimal c.args.number) (codes " of type ") (decimal c.args.kind) c.in_ok-push_numbered-in-None.ensures c.push_numbered-in-None.ensures)
