use Rattle.ground_checks.proofs.ReadLemmas.{entry_some, entry_none}
use Rattle.ground_checks.proofs.read_faults.entry_of.Goals as goal

pub returns-in-Some : goal.returns-in-Some
returns-in-Some c = λ file one. entry_some c.args.map.now c.args.files.now file c.in-Some.place c.refused_place.result c.refused_place.ensures c.in-Some.is one

pub returns-in-None : goal.returns-in-None
returns-in-None c = λ file one. entry_none c.args.map.now c.args.files.now file c.refused_place.result c.refused_place.ensures c.in-None.is one
