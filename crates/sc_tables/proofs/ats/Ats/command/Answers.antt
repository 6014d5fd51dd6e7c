use Rattle.std.proofs.Common.{◌∙◌, rules, arith}
use Rattle.std.proofs.lemmas.List.{take_rest}
use Rattle.sc_tables.proofs.Indexed.{timed_entry}
use Rattle.sc_tables.proofs.ats.Ats.command.Goals as goal

pub bounds-self-k : goal.bounds-self-k
bounds-self-k c = (timed_entry c.args.self.now c.args.k (record { tag = 0; number = 0; at = 0 }) (search rules) c.requires).below

pub slice_bounds-read-count : goal.slice_bounds-read-count
slice_bounds-read-count c = let entry = timed_entry c.args.self.now c.args.k (record { tag = 0; number = 0; at = 0 }) (search rules) c.requires in omega arith

pub slice_bounds-read-start : goal.slice_bounds-read-start
slice_bounds-read-start c = let entry = timed_entry c.args.self.now c.args.k (record { tag = 0; number = 0; at = 0 }) (search rules) c.requires in omega arith

pub read-requires : goal.read-requires
read-requires c = rw take_rest (timed_entry c.args.self.now c.args.k (record { tag = 0; number = 0; at = 0 }) (search rules) c.requires).whole

pub returns : goal.returns
returns c = rw take_rest at c.read.ensures ∙ (timed_entry c.args.self.now c.args.k (record { tag = 0; number = 0; at = 0 }) (search rules) c.requires).command
