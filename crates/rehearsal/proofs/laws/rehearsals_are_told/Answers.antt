use Rattle.rehearsal.proofs.laws.rehearsals_are_told.Goals as goal

pub returns : goal.returns
returns c = λ r told held rehearses causes tells holds. record {
  rehearses = rehearses;
  read_failed = λ is. (causes.read_failed is).strictly tells;
  read_well = causes.read_well;
  write_failed = λ is. (causes.write_failed is).strictly holds;
  wrote_well = causes.wrote_well;
}
