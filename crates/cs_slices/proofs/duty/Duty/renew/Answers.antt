use Rattle.cs_slices.proofs.duty.Duty.renew.Goals as goal

pub returns : goal.returns
returns c = λ tables happened stood. record {
  switches = c.renew.ensures tables happened stood.switches;
  passing = c.renew-2.ensures happened stood.passing;
  tally = c.renew-3.ensures happened stood.tally;
}
