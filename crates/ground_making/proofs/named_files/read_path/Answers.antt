use Rattle.ground_making.proofs.named_files.read_path.Goals as goal

pub returns-then-replaces-clause-cause : goal.returns-then-replaces-clause-cause
returns-then-replaces-clause-cause g c = λ before was. c.replaces.ensures c.if-replaces.true before was
