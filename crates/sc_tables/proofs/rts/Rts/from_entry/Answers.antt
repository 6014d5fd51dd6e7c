use Rattle.std.proofs.Common.{rules, arith}
use Rattle.std.proofs.lemmas.List.{take_rest}
use Rattle.sc_tables.proofs.Indexed.{relative_entry}
use Rattle.sc_tables.proofs.rts.Rts.from_entry.Goals as goal

pub bounds-self-k : goal.bounds-self-k
bounds-self-k c = (relative_entry c.args.self.now c.args.k (search rules) c.requires).below

pub slice_bounds-result-count : goal.slice_bounds-result-count
slice_bounds-result-count c = let entry = relative_entry c.args.self.now c.args.k (search rules) c.requires in omega arith

pub slice_bounds-result-start : goal.slice_bounds-result-start
slice_bounds-result-start c = let entry = relative_entry c.args.self.now c.args.k (search rules) c.requires in omega arith

pub returns-clause-whole : goal.returns-clause-whole
returns-clause-whole c = rw take_rest (relative_entry c.args.self.now c.args.k (search rules) c.requires).whole

pub returns-clause-long : goal.returns-clause-long
returns-clause-long c = rw take_rest (relative_entry c.args.self.now c.args.k (search rules) c.requires).long

pub returns-clause-command : goal.returns-clause-command
returns-clause-command c = rw take_rest (relative_entry c.args.self.now c.args.k (search rules) c.requires).command
