use Rattle.std.proofs.Common.{rules}
use Rattle.sc_tables.proofs.Indexed.{timed_entry}
use Rattle.sc_tables.proofs.ats.Ats.tag.Goals as goal

pub bounds-self-k : goal.bounds-self-k
bounds-self-k c = (timed_entry c.args.self.now c.args.k (record { tag = 0; number = 0; at = 0 }) (search rules) c.requires).below

pub returns : goal.returns
returns c = (timed_entry c.args.self.now c.args.k (record { tag = 0; number = 0; at = 0 }) (search rules) c.requires).tag
